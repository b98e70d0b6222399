use Rattle.varisat_theory.proofs.bounds.RestartPoints.{units_first, units_below, units_raised}
use Rattle.varisat_theory.proofs.laws.rank.units_come_first.Goals as goal

pub returns : goal.returns
returns c = (units_first, units_below, units_raised)
