use Rattle.varisat_theory.proofs.steps.StepsMade.{none_made}
use Rattle.varisat_theory.proofs.laws.steps.no_step_is_made.Goals as goal

pub returns : goal.returns
returns c = none_made
