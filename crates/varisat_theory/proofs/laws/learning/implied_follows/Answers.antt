use Rattle.varisat_theory.proofs.clauses.Implication.{implied_follows}
use Rattle.varisat_theory.proofs.laws.learning.implied_follows.Goals as goal

pub returns : goal.returns
returns c = implied_follows
