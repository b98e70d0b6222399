use Rattle.varisat_theory.proofs.clauses.Implication.{trail_conflicts}
use Rattle.varisat_theory.proofs.laws.learning.trail_conflicts.Goals as goal

pub returns : goal.returns
returns c = trail_conflicts
