use Rattle.varisat_theory.proofs.steps.StepsMade.{one_more_made}
use Rattle.varisat_theory.proofs.laws.steps.step_is_made.Goals as goal

pub returns : goal.returns
returns c = one_more_made
