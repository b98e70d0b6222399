use Rattle.std.proofs.Common.{take}
use Rattle.varisat_theory.specs.promises.Propagation.{LeavesOnly}
use Rattle.varisat_present.proofs.clause.find_other.Given as goal

abbrev pub invariant-loop-l : goal.invariant-loop-l
invariant-loop-l g l = LeavesOnly l.known (take l.l-index l.clause) l.literal
