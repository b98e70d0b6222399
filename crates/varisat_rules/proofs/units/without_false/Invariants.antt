use Rattle.std.proofs.Common.{take}
use Rattle.varisat_rules.specs.inside.Resolving.{LeavesOutFalse}
use Rattle.varisat_rules.proofs.units.without_false.Given as goal

abbrev pub invariant-loop-lit : goal.invariant-loop-lit
invariant-loop-lit g l = LeavesOutFalse l.db (take l.lit-index l.lit-items) l.out.items
