use Rattle.varisat_theory.proofs.steps.StepEnds.{contradiction_is_found}
use Rattle.varisat_theory.proofs.laws.steps.contradiction_is_found.Goals as goal

pub returns : goal.returns
returns c = contradiction_is_found
