use Rattle.varisat_theory.proofs.steps.StepChanges.{is_shortened}
use Rattle.varisat_theory.proofs.laws.steps.clause_is_shortened.Goals as goal

pub returns : goal.returns
returns c = is_shortened
