use Rattle.varisat_theory.proofs.steps.StepsMade.{steps_refute}
use Rattle.varisat_theory.proofs.laws.steps.steps_refute.Goals as goal

pub returns : goal.returns
returns c = steps_refute
