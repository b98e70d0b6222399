use Rattle.varisat_theory.proofs.steps.StepAccounts.{step_accounts}
use Rattle.varisat_theory.proofs.laws.steps.step_accounts.Goals as goal

pub returns : goal.returns
returns c = step_accounts
