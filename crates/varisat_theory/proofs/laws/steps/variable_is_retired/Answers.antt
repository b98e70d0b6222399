use Rattle.varisat_theory.proofs.steps.StepRetirements.{variable_is_retired}
use Rattle.varisat_theory.proofs.laws.steps.variable_is_retired.Goals as goal

pub returns : goal.returns
returns c = variable_is_retired
