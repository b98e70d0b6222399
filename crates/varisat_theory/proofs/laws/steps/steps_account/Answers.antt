use Rattle.varisat_theory.proofs.steps.StepsMade.{steps_account}
use Rattle.varisat_theory.proofs.laws.steps.steps_account.Goals as goal

pub returns : goal.returns
returns c = steps_account
