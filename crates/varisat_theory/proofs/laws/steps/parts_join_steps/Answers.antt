use Rattle.varisat_theory.proofs.steps.StepsMade.{part_before_made, part_after_made, part_after_found}
use Rattle.varisat_theory.proofs.laws.steps.parts_join_steps.Goals as goal

pub returns : goal.returns
returns c = (part_before_made, part_after_made, part_after_found)
