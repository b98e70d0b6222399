use Rattle.varisat_theory.proofs.steps.StepsMade.{steps_of_call}
use Rattle.varisat_theory.proofs.laws.steps.steps_of_call.Goals as goal

pub returns : goal.returns
returns c = steps_of_call
