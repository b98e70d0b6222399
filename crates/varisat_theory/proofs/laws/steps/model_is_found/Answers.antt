use Rattle.varisat_theory.proofs.steps.StepEnds.{model_satisfies, model_is_found}
use Rattle.varisat_theory.proofs.laws.steps.model_is_found.Goals as goal

pub returns : goal.returns
returns c = (model_satisfies, model_is_found)
