use Rattle.varisat_theory.proofs.steps.StepChanges.{satisfied_is_deleted}
use Rattle.varisat_theory.proofs.laws.steps.satisfied_is_deleted.Goals as goal

pub returns : goal.returns
returns c = satisfied_is_deleted
