use Rattle.varisat_theory.proofs.clauses.Learning.{follows_resolved}
use Rattle.varisat_theory.proofs.laws.learning.resolvent_follows.Goals as goal

pub returns : goal.returns
returns c = follows_resolved
