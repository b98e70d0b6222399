use Rattle.varisat_theory.proofs.steps.StepAccounts.{step_is_part, step_adds, added_append}
use Rattle.varisat_theory.proofs.laws.steps.step_is_part.Goals as goal

pub returns : goal.returns
returns c = (step_is_part, step_adds, added_append)
