use Rattle.varisat_schedule.proofs.RestartPlans.{first-restarts}
use Rattle.varisat_schedule.proofs.laws.first_restarts_are_at_sums.Goals as goal

pub returns : goal.returns
returns c = first-restarts
