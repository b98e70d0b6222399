use Rattle.std.proofs.Common.{◌≡◌, length}
use Rattle.varisat_present.specs.Pairs.{HaveLiterals}
use Rattle.varisat_present.proofs.pairs.list_literals.Given as goal

abbrev pub invariant-loop-place : goal.invariant-loop-place
invariant-loop-place g l = (length l.list.items ≡ l.place) × HaveLiterals l.places l.list.items
