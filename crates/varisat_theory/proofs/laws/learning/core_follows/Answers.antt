use Rattle.varisat_theory.proofs.clauses.Learning.{core_follows, core_from_clause}
use Rattle.varisat_theory.proofs.laws.learning.core_follows.Goals as goal

pub returns : goal.returns
returns c = λ P core. (core_follows P core, core_from_clause P core)
