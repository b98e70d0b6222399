use Rattle.varisat_present.proofs.PlacedClauses.{Dropped}
use Rattle.varisat_present.proofs.places.drop_mentions.Given as goal

abbrev pub invariant-loop-place : goal.invariant-loop-place
invariant-loop-place g l = Dropped l.var l.place l.fn.places l.places
