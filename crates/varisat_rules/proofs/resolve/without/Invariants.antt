use Rattle.std.proofs.Common.{take}
use Rattle.varisat_rules.specs.inside.Resolving.{LeavesOut}
use Rattle.varisat_rules.proofs.resolve.without.Given as goal

abbrev pub invariant-loop-other : goal.invariant-loop-other
invariant-loop-other g l = LeavesOut (take l.other-index l.clause) l.lit l.out.items
