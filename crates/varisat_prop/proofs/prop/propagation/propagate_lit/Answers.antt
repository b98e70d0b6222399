use Rattle.std.proofs.Common.{refl}
use Rattle.varisat_prop.specs.QueueSteps.{parts_of}
use Rattle.varisat_prop.proofs.trails.NextLiteral.{next-true, next-binary, pairs-go, still-next, both-go, both-end}
use Rattle.varisat_prop.proofs.prop.propagation.propagate_lit.Goals as goal

pub propagate_binary-requires : goal.propagate_binary-requires
propagate_binary-requires g c = record { well = c.requires.well; is_true = next-true c.requires; listed = next-binary c.requires }

pub returns-in-Err-clause-goes : goal.returns-in-Err-clause-goes
returns-in-Err-clause-goes g c = pairs-go c.requires c.in_ok-conflict.ensures.propagates c.in_ok-conflict.ensures.keeps refl

pub propagate_long-requires : goal.propagate_long-requires
propagate_long-requires g c = still-next c.requires c.in_ok-conflict.ensures.propagates c.in_ok-conflict.ensures.keeps refl

pub returns-clause-goes : goal.returns-clause-goes
returns-clause-goes g c =
    let r = parts_of c.propagate_long.new.alloc c.args.binary.now c.propagate_long.new.assignment c.propagate_long.new.trail c.propagate_long.new.graph in
    both-go c.propagate_long.new.watchlists r c.propagate_long.result
    (pairs-go c.requires c.in_ok-conflict.ensures.propagates c.in_ok-conflict.ensures.keeps refl) c.propagate_long.ensures.goes

pub returns-clause-ends : goal.returns-clause-ends
returns-clause-ends g c =
    let n = still-next c.requires c.in_ok-conflict.ensures.propagates c.in_ok-conflict.ensures.keeps refl in
    let d = rw c.in_default.is at c.in_ok-conflict.ensures.ends in
    let q = parts_of c.args.alloc.now c.args.binary.now c.propagate_binary.new.assignment c.propagate_binary.new.trail c.propagate_binary.new.graph in
    let r = parts_of c.propagate_long.new.alloc c.args.binary.now c.propagate_long.new.assignment c.propagate_long.new.trail c.propagate_long.new.graph in
    both-end c.propagate_long.new.watchlists q r c.propagate_long.result n d c.propagate_long.ensures.goes c.propagate_long.ensures.ends
