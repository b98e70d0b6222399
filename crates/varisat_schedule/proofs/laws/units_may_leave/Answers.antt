use Rattle.varisat_schedule.proofs.StepsWithout.{units-may-leave}
use Rattle.varisat_schedule.proofs.laws.units_may_leave.Goals as goal

pub returns : goal.returns
returns c = units-may-leave
