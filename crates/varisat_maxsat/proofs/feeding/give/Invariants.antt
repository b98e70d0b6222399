use Rattle.std.proofs.Common.{take}
use Rattle.varisat_maxsat.proofs.Given.{GivesSoFar}
use Rattle.varisat_maxsat.proofs.feeding.give.Given as goal

abbrev pub invariant-loop-literal : goal.invariant-loop-literal
invariant-loop-literal g l = GivesSoFar l.fn.client (take l.literal-index l.clause) l.client
