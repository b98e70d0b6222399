use Rattle.varisat_plain.proofs.PropagationRounds.{unknown}
use Rattle.varisat_present.specs.Places.{present}
use Rattle.varisat_present.specs.Knowing.{GrowsKnown}
use Rattle.varisat_present.proofs.propagation.saturate.Given as goal

abbrev pub invariant-rounds : goal.invariant-rounds
invariant-rounds g l = GrowsKnown (present l.places) l.fn.known l.known

abbrev pub decreases-rounds : goal.decreases-rounds
decreases-rounds g l = unknown (present l.places) l.known
