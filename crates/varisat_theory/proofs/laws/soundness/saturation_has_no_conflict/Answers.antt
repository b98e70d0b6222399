use Rattle.varisat_theory.proofs.clauses.Saturated.{saturated_no_conflict}
use Rattle.varisat_theory.proofs.laws.soundness.saturation_has_no_conflict.Goals as goal

pub returns : goal.returns
returns c = saturated_no_conflict
