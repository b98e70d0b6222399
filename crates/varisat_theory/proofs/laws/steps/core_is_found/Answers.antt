use Rattle.varisat_theory.proofs.steps.StepEnds.{core_is_found}
use Rattle.varisat_theory.proofs.laws.steps.core_is_found.Goals as goal

pub returns : goal.returns
returns c = core_is_found
