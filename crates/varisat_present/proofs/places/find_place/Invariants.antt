use Rattle.std.proofs.Common.{take}
use Rattle.varisat_plain.specs.promises.Checking.{IsAbsent}
use Rattle.varisat_present.specs.Places.{present}
use Rattle.varisat_present.proofs.places.find_place.Given as goal

abbrev pub invariant-loop-place : goal.invariant-loop-place
invariant-loop-place g l = IsAbsent (present (take l.place l.places)) l.clause
