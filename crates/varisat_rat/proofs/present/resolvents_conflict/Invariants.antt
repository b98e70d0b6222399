use Rattle.std.proofs.Common.{◌≡◌, take}
use Rattle.varisat_present.specs.Places.{present}
use Rattle.varisat_rat.specs.promises.Resolving.{AllConflict}
use Rattle.varisat_rat.proofs.present.resolvents_conflict.Given as goal

abbrev pub invariant-loop-place : goal.invariant-loop-place
invariant-loop-place g l = record {
  same : l.known ≡ l.fn.known;
  so_far : AllConflict (present l.places) (present (take l.place l.places)) l.base l.literal;
}
