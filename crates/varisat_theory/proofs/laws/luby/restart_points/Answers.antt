use Rattle.varisat_theory.proofs.bounds.RestartPoints.{point_zero, point_next, point_rises}
use Rattle.varisat_theory.proofs.laws.luby.restart_points.Goals as goal

pub returns : goal.returns
returns c = (point_zero, point_next, point_rises)
