use Rattle.varisat_theory.proofs.steps.StepAccounts.{first_accounts}
use Rattle.varisat_theory.proofs.laws.steps.first_accounts.Goals as goal

pub returns : goal.returns
returns c = first_accounts
