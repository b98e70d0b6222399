use Rattle.std.proofs.Common.{take}
use Rattle.varisat_maxsat.proofs.Given.{AssumesSoFar}
use Rattle.varisat_maxsat.proofs.feeding.assume.Given as goal

abbrev pub invariant-loop-charge : goal.invariant-loop-charge
invariant-loop-charge g l = AssumesSoFar l.fn.client l.threshold (take l.charge-index l.charges) l.client
