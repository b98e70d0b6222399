use Rattle.varisat_rules.specs.inside.States.{SavesClauses}
use Rattle.varisat_rules.proofs.eliminate.save_all.Given as goal

abbrev pub invariant-loop-place : goal.invariant-loop-place
invariant-loop-place g l = SavesClauses l.fn.db l.db l.lit l.with l.against l.place-index
