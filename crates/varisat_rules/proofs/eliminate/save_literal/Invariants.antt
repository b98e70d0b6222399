use Rattle.varisat_rules.specs.inside.States.{Drops}
use Rattle.varisat_rules.proofs.eliminate.save_literal.Given as goal

abbrev pub invariant-loop-place : goal.invariant-loop-place
invariant-loop-place g l = Drops l.fn.db l.db l.fn.lit l.places l.place-index
