use Rattle.std.proofs.Common.{◌∙◌, ◌+◌, arith}
use Rattle.varisat_vsids.proofs.HeapHoles.{heap_of_under}
use Rattle.varisat_vsids.proofs.HeapPlaces.{put_into}
use Rattle.varisat_vsids.proofs.heap.put_in.Goals as goal

pub returns-clause-heap : goal.returns-clause-heap
returns-clause-heap c =
    heap_of_under c.args.activity.now c.rise.new.heap c.rise.new.position (c.args.len + 1) c.rise.result c.rise.ensures.heap
    (c.rise.ensures.children (λ j j0 jn jk. absurd (omega arith)))

pub returns-clause-available : goal.returns-clause-available
returns-clause-available c =
    c.rise.ensures.available ∙ rw c.exchange.ensures.position
    (put_into c.args.heap.now c.args.position.now c.args.place c.args.len c.requires.heap.linked c.requires.behind c.requires.place)
