use Rattle.varisat_theory.proofs.clauses.Growth.{conflicts_more}
use Rattle.varisat_theory.proofs.laws.growth.conflict_grows.Goals as goal

pub returns : goal.returns
returns c = conflicts_more
