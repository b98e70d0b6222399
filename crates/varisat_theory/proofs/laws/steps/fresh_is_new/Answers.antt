use Rattle.varisat_theory.proofs.steps.StepEnds.{fresh_is_new}
use Rattle.varisat_theory.proofs.laws.steps.fresh_is_new.Goals as goal

pub returns : goal.returns
returns c = fresh_is_new
