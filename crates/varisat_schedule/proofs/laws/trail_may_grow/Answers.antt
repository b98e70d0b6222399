use Rattle.varisat_schedule.proofs.StepsWithout.{trail-may-grow}
use Rattle.varisat_schedule.proofs.laws.trail_may_grow.Goals as goal

pub returns : goal.returns
returns c = trail-may-grow
