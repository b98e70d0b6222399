use Rattle.varisat_schedule.proofs.CallSteps.{large-budget}
use Rattle.varisat_schedule.proofs.laws.large_budget_is_not_spent.Goals as goal

pub returns : goal.returns
returns c = large-budget
