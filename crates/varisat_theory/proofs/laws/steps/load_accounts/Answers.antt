use Rattle.varisat_theory.proofs.steps.StepAccounts.{load_accounts}
use Rattle.varisat_theory.proofs.laws.steps.load_accounts.Goals as goal

pub returns : goal.returns
returns c = load_accounts
