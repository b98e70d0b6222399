use Rattle.varisat_schedule.proofs.RestartPlans.{restarts-at-points}
use Rattle.varisat_schedule.proofs.laws.restarts_are_at_points.Goals as goal

pub returns : goal.returns
returns c = restarts-at-points
