use Rattle.varisat_rules.specs.inside.States.{IsLaterState}
use Rattle.varisat_simplify.proofs.simplify.eliminate_all.Given as goal

abbrev pub invariant-loop-key : goal.invariant-loop-key
invariant-loop-key g l = IsLaterState l.fn.db l.db
