use Rattle.varisat_theory.proofs.steps.StepParts.{parts_join}
use Rattle.varisat_theory.proofs.laws.steps.parts_join.Goals as goal

pub returns : goal.returns
returns c = parts_join
