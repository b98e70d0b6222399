use Rattle.std.proofs.Common.{take}
use Rattle.varisat_present.specs.Places.{present}
use Rattle.varisat_present.proofs.KnownGrowth.{Round}
use Rattle.varisat_present.proofs.propagation.pass.Given as goal

abbrev pub invariant-loop-place : goal.invariant-loop-place
invariant-loop-place g l = Round (present l.places) l.fn.known l.known (present (take l.place l.places))
