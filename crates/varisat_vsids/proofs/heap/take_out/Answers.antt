use Rattle.std.proofs.Common.{◌∙◌, ◌-◌, arith}
use Rattle.varisat_vsids.proofs.HeapPlaces.{taken_out}
use Rattle.varisat_vsids.proofs.heap.take_out.Goals as goal

pub returns-then-place-last-clause-available : goal.returns-then-place-last-clause-available
returns-then-place-last-clause-available c =
    c.sink.ensures.available ∙ c.rise-risen.ensures.available ∙ rw c.exchange.ensures.position
    (taken_out c.args.heap.now c.args.position.now c.args.place c.args.len (c.args.len - 1) c.requires.heap.linked c.requires.place
    (omega (arith, c.requires.place)) c.requires.heap.part)

pub returns-else-place-last-clause-available : goal.returns-else-place-last-clause-available
returns-else-place-last-clause-available c =
    rw c.exchange.ensures.position (taken_out c.args.heap.now c.args.position.now c.args.place c.args.len
    (c.args.len - 1) c.requires.heap.linked c.requires.place (omega (arith, c.requires.place)) c.requires.heap.part)

pub rise-risen-requires-clause-heap : goal.rise-risen-requires-clause-heap
rise-risen-requires-clause-heap c = grind arith
