use Rattle.varisat_theory.proofs.clauses.Growth.{follows_more}
use Rattle.varisat_theory.proofs.laws.growth.follows_grows.Goals as goal

pub returns : goal.returns
returns c = follows_more
