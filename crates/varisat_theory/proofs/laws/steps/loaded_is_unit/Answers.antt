use Rattle.varisat_theory.proofs.steps.StepLoads.{loaded_is_unit}
use Rattle.varisat_theory.proofs.laws.steps.loaded_is_unit.Goals as goal

pub returns : goal.returns
returns c = loaded_is_unit
