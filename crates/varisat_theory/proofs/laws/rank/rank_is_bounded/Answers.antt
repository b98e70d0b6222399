use Rattle.varisat_theory.proofs.bounds.Ranks.{rank_below}
use Rattle.varisat_theory.proofs.laws.rank.rank_is_bounded.Goals as goal

pub returns : goal.returns
returns c = rank_below
