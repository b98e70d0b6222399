use Rattle.varisat_rules.specs.inside.States.{IsLaterState}
use Rattle.varisat_simplify.proofs.equal.rewrite_all.Given as goal

abbrev pub invariant-loop-lit : goal.invariant-loop-lit
invariant-loop-lit g l = IsLaterState l.fn.db l.db
