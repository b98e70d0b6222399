use Rattle.varisat_theory.proofs.journals.StepCovers.{names_stay_covered}
use Rattle.varisat_theory.proofs.laws.steps.names_stay_covered.Goals as goal

pub returns : goal.returns
returns c = names_stay_covered
