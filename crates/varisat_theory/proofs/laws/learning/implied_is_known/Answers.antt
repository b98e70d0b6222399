use Rattle.varisat_theory.proofs.clauses.Implication.{implied_known}
use Rattle.varisat_theory.proofs.laws.learning.implied_is_known.Goals as goal

pub returns : goal.returns
returns c = implied_known
