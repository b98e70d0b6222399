use Rattle.varisat_solver.proofs.modes.Heeding.{HasHeeded}
use Rattle.varisat_solver.proofs.phases.remember_phases.Given as goal

abbrev pub invariant-loop-index : goal.invariant-loop-index
invariant-loop-index g l = HasHeeded l.variables l.phases l.index l.initial.assignment l.assignment
