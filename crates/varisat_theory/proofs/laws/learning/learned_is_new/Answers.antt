use Rattle.varisat_theory.proofs.clauses.Saturated.{learned_is_new}
use Rattle.varisat_theory.proofs.laws.learning.learned_is_new.Goals as goal

pub returns : goal.returns
returns c = learned_is_new
