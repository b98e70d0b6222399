use Rattle.varisat_rules.specs.inside.States.{IsLaterState}
use Rattle.varisat_simplify.proofs.congruence.remove_cases.Given as goal

abbrev pub invariant-loop-place : goal.invariant-loop-place
invariant-loop-place g l = IsLaterState l.fn.db l.db
