use Rattle.std.proofs.Common.{take}
use Rattle.varisat_present.proofs.KnownGrowth.{Assumed}
use Rattle.varisat_present.proofs.propagation.assume.Given as goal

abbrev pub invariant-loop-l : goal.invariant-loop-l
invariant-loop-l g l = Assumed l.fn.known l.base (take l.l-index l.base) l.known
