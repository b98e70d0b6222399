use Rattle.varisat_theory.proofs.bounds.IntervalBounds.{total_bound}
use Rattle.varisat_theory.proofs.laws.rank.bound_is_a_power.Goals as goal

pub returns : goal.returns
returns c = total_bound
