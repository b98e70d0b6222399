use Rattle.varisat_present.specs.Places.{present}
use Rattle.varisat_present.specs.Knowing.{GrowsKnown}
use Rattle.varisat_present.proofs.propagation.follow.Given as goal

abbrev pub invariant-loop-place : goal.invariant-loop-place
invariant-loop-place g l = GrowsKnown (present l.places) l.fn.known l.known
