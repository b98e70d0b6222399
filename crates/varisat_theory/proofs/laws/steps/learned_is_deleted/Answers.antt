use Rattle.varisat_theory.proofs.steps.StepChanges.{learned_is_deleted}
use Rattle.varisat_theory.proofs.laws.steps.learned_is_deleted.Goals as goal

pub returns : goal.returns
returns c = learned_is_deleted
