use Rattle.varisat_theory.proofs.steps.StepChanges.{unit_is_proved}
use Rattle.varisat_theory.proofs.laws.steps.unit_is_proved.Goals as goal

pub returns : goal.returns
returns c = unit_is_proved
