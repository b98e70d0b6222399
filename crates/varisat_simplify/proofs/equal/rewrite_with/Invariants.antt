use Rattle.varisat_rules.specs.inside.States.{IsLaterState}
use Rattle.varisat_simplify.proofs.equal.rewrite_with.Given as goal

abbrev pub invariant-loop-index : goal.invariant-loop-index
invariant-loop-index g l = IsLaterState l.fn.db l.db
