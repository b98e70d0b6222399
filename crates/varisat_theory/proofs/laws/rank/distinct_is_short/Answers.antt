use Rattle.varisat_theory.proofs.bounds.Count.{length-distinct}
use Rattle.varisat_theory.proofs.laws.rank.distinct_is_short.Goals as goal

pub returns : goal.returns
returns c = length-distinct
