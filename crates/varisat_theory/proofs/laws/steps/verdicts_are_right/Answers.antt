use Rattle.varisat_theory.proofs.steps.StepAccounts.{verdicts_are_right}
use Rattle.varisat_theory.proofs.laws.steps.verdicts_are_right.Goals as goal

pub returns : goal.returns
returns c = verdicts_are_right
