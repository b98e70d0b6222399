use Rattle.varisat_theory.proofs.bounds.Ranks.{rank_steady}
use Rattle.varisat_theory.proofs.laws.rank.ranks_are_steady.Goals as goal

pub returns : goal.returns
returns c = rank_steady
