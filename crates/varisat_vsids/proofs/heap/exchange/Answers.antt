use Rattle.std.proofs.Common.{arith}
use Rattle.std.proofs.lemmas.Grind.{common_steps}
use Rattle.std.proofs.Common.{◌≡◌, ◌∙◌, get_or}
use Rattle.std.proofs.lemmas.Grind.{get_or_default_zero}
use Rattle.varisat_vsids.proofs.HeapPlaces.{exchanged}
use Rattle.varisat_vsids.proofs.heap.exchange.Goals as goal

pub returns-clause-linked : goal.returns-clause-linked
returns-clause-linked c =
    let b = c.swap.ensures.by_index in
    let first : c.index.result ≡ get_or c.args.heap.now c.args.i 0 = c.index.ensures.index ∙ c.index-heap-i.is
    ∙ get_or_default_zero c.args.heap.now c.args.i c.index-heap-i.result c.requires.first in
    let second : c.index-2.result ≡ get_or c.args.heap.now c.args.j 0 = c.index-2.ensures.index ∙ c.index-heap-j.is
    ∙ get_or_default_zero c.args.heap.now c.args.j c.index-heap-j.result c.requires.second in
    rw (first, second) (exchanged c.args.heap.now c.swap.new.self c.args.position.now c.args.i c.args.j c.requires.linked c.requires.first
    c.requires.second c.swap.ensures.len (b.0 0) (b.1 0) (λ k. b.2 k 0))

pub returns-clause-position : goal.returns-clause-position
returns-clause-position c = grind (arith, common_steps)
