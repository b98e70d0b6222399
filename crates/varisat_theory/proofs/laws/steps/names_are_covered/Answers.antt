use Rattle.varisat_theory.proofs.journals.StepCovers.{names_are_covered}
use Rattle.varisat_theory.proofs.laws.steps.names_are_covered.Goals as goal

pub returns : goal.returns
returns c = names_are_covered
