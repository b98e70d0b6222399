use Rattle.varisat_theory.proofs.steps.StepLoads.{part_load, load_part}
use Rattle.varisat_theory.proofs.laws.steps.parts_join_load.Goals as goal

pub returns : goal.returns
returns c = (part_load, load_part)
