use Rattle.std.proofs.Common.{take}
use Rattle.varisat_rules.specs.inside.Resolving.{Resolves}
use Rattle.varisat_rules.proofs.resolve.resolve.Given as goal

abbrev pub invariant-loop-one : goal.invariant-loop-one
invariant-loop-one g l = Resolves (take l.one-index l.clause) l.other l.lit l.out.items
