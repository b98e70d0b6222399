use Rattle.varisat_theory.proofs.steps.StepAccounts.{part_accounts}
use Rattle.varisat_theory.proofs.laws.steps.part_accounts.Goals as goal

pub returns : goal.returns
returns c = part_accounts
