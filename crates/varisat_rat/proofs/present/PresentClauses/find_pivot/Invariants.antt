use Rattle.std.proofs.Common.{◌≡◌, take}
use Rattle.varisat_rat.proofs.RatPlaces.{HasNoPivot}
use Rattle.varisat_rat.proofs.present.PresentClauses.find_pivot.Given as goal

abbrev pub invariant-loop-i : goal.invariant-loop-i
invariant-loop-i g l = record { same : l.self ≡ l.fn.self; none : HasNoPivot l.fn.self l.clause (take l.i l.clause) }
