use Rattle.varisat_theory.proofs.bounds.Ranks.{rank_raised}
use Rattle.varisat_theory.proofs.laws.rank.rank_rises.Goals as goal

pub returns : goal.returns
returns c = rank_raised
