use Rattle.varisat_theory.proofs.clauses.Saturated.{complete_fewer, complete_added, complete_shorter}
use Rattle.varisat_theory.proofs.laws.learning.completeness_stays.Goals as goal

pub returns : goal.returns
returns c = (complete_fewer, complete_added, complete_shorter)
