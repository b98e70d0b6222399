use Rattle.varisat_theory.proofs.steps.StepAccounts.{new_are_added}
use Rattle.varisat_theory.proofs.laws.steps.new_are_added.Goals as goal

pub returns : goal.returns
returns c = new_are_added
