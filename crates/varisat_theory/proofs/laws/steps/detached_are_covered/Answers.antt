use Rattle.varisat_theory.proofs.journals.StepCovers.{detached_are_covered}
use Rattle.varisat_theory.proofs.laws.steps.detached_are_covered.Goals as goal

pub returns : goal.returns
returns c = detached_are_covered
