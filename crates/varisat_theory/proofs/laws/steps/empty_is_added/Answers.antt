use Rattle.varisat_theory.proofs.steps.StepEnds.{empty_is_added}
use Rattle.varisat_theory.proofs.laws.steps.empty_is_added.Goals as goal

pub returns : goal.returns
returns c = empty_is_added
