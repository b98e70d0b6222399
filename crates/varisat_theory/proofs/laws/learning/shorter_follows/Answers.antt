use Rattle.varisat_theory.proofs.clauses.Learning.{follows_at_zero}
use Rattle.varisat_theory.proofs.laws.learning.shorter_follows.Goals as goal

pub returns : goal.returns
returns c = follows_at_zero
