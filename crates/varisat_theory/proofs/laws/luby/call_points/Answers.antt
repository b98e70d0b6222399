use Rattle.varisat_theory.proofs.bounds.RestartPoints.{call_point_zero, call_point_next, call_point_first}
use Rattle.varisat_theory.proofs.laws.luby.call_points.Goals as goal

pub returns : goal.returns
returns c = (call_point_zero, call_point_next, call_point_first)
