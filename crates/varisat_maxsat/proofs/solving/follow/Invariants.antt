use Rattle.varisat_maxsat.specs.inside.Reductions.{KeepsReductions}
use Rattle.varisat_maxsat.proofs.solving.follow.Given as goal

abbrev pub invariant-sums : goal.invariant-sums
invariant-sums g l = KeepsReductions l.fn.reduction l.reduction

abbrev pub invariant-rules : goal.invariant-rules
invariant-rules g l = KeepsReductions l.fn.reduction l.reduction
