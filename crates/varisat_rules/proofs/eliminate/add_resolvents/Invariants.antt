use Rattle.varisat_rules.specs.inside.States.{ResolvesPairs}
use Rattle.varisat_rules.proofs.eliminate.add_resolvents.Given as goal

abbrev pub invariant-rows : goal.invariant-rows
invariant-rows g l = ResolvesPairs l.fn.db l.db l.lit l.with l.against l.one-index 0

abbrev pub invariant-pairs : goal.invariant-pairs
invariant-pairs g l = ResolvesPairs l.fn.db l.db l.lit l.with l.against l.one-index l.other-index
