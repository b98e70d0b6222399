use Rattle.std.proofs.Common.{◌≡◌, ◌≤◌, length, take}
use Rattle.varisat_present.specs.Places.{present}
use Rattle.varisat_rat.proofs.present.PresentClauses.len.Given as goal

abbrev pub invariant-loop-place : goal.invariant-loop-place
invariant-loop-place g l = (l.count ≡ length (present (take l.place l.self-inside.places.items))) × (l.count ≤ l.place)
