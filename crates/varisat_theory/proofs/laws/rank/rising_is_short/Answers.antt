use Rattle.varisat_theory.proofs.bounds.Ranks.{rising_rank}
use Rattle.varisat_theory.proofs.laws.rank.rising_is_short.Goals as goal

pub returns : goal.returns
returns c = rising_rank
