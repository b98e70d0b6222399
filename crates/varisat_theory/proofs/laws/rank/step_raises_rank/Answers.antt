use Rattle.varisat_theory.proofs.bounds.Ranks.{rank_step}
use Rattle.varisat_theory.proofs.laws.rank.step_raises_rank.Goals as goal

pub returns : goal.returns
returns c = rank_step
