use Rattle.varisat_schedule.proofs.StepsWithout.{goes-on-without}
use Rattle.varisat_schedule.proofs.laws.goes_on_without.Goals as goal

pub returns : goal.returns
returns c = goes-on-without
