use Rattle.varisat_theory.proofs.steps.StepsMade.{names_satisfied}
use Rattle.varisat_theory.proofs.laws.steps.names_are_satisfied.Goals as goal

pub returns : goal.returns
returns c = names_satisfied
