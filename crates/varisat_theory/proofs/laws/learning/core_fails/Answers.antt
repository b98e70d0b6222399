use Rattle.varisat_theory.proofs.clauses.Sound.{core_fails, core_stays}
use Rattle.varisat_theory.proofs.laws.learning.core_fails.Goals as goal

pub returns : goal.returns
returns c = (core_fails, core_stays)
