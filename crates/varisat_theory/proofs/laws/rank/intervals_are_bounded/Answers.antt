use Rattle.varisat_theory.proofs.bounds.IntervalBounds.{intervals_bound}
use Rattle.varisat_theory.proofs.laws.rank.intervals_are_bounded.Goals as goal

pub returns : goal.returns
returns c = intervals_bound
