use Rattle.std.proofs.Common.{◌∙◌, sym}
use Rattle.varisat_solver.proofs.modes.Heeding.{heeded}
use Rattle.varisat_solver.proofs.phases.remember_phase.Goals as goal

pub returns-in-Some : goal.returns-in-Some
returns-in-Some g c =
    heeded c.args.assignment.now c.remember.new.assignment c.args.solver c.lit.result c.in-Some.phase _ c.requires c.lit.ensures
    (sym c.phase_of_solver.ensures ∙ c.in-Some.is) c.remember.ensures.free c.remember.ensures.taken
