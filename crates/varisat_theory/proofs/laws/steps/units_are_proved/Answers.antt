use Rattle.varisat_theory.proofs.steps.StepRetirements.{units_are_proved}
use Rattle.varisat_theory.proofs.laws.steps.units_are_proved.Goals as goal

pub returns : goal.returns
returns c = units_are_proved
