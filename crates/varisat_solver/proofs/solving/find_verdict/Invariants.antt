use Rattle.std.proofs.Common.{◌≡◌, ◌+◌, ◌-◌, ◌*◌, ◌^◌, length}
use Rattle.varisat_schedule.specs.CallSteps.{steps_since}
use Rattle.varisat_tracer.specs.inside.Tracing.{tracer_state, CanLog}
use Rattle.varisat_search.specs.Contexts.{view}
use Rattle.varisat_solver.specs.promises.Detaching.{DetachesInTime}
use Rattle.varisat_solver.specs.inside.Searches.{LogsSome, turn_of, ComesOn}
use Rattle.varisat_solver.specs.inside.Representations.{undecided_spaces, IsValidSolver}
use Rattle.varisat_solver.proofs.steps.FindVerdictSteps.{HasMade}
use Rattle.varisat_solver.proofs.solving.find_verdict.Given as goal

abbrev pub invariant-steps : goal.invariant-steps
invariant-steps g l = record {
  kept : IsValidSolver l.tracer.tables l.ctx;
  logs : CanLog l.tracer.proof;
  logged : LogsSome l.fn.tracer.proof l.tracer.proof;
  count : length l.ctx.assignment.current ≡ length l.fn.ctx.assignment.current;
  state : l.ctx.solver_state ≡ l.fn.ctx.solver_state;
  config : l.ctx.solver_config ≡ l.fn.ctx.solver_config;
  made : HasMade l.fn.ctx l.ctx l.max_steps;
  leaves : DetachesInTime l.fn.tracer.tables (view l.fn.ctx) → DetachesInTime l.tracer.tables (view l.ctx);
  represents : ComesOn (turn_of l.fn.ctx) (steps_since l.fn.ctx.schedule l.ctx.schedule) (undecided_spaces l.fn.tracer.tables l.fn.tracer.proof.checker l.fn.ctx)
      (undecided_spaces l.tracer.tables l.tracer.proof.checker l.ctx) l.fn.tracer.proof l.tracer.proof;
  still : l.ctx.schedule.steps ≡ l.fn.ctx.schedule.steps → (l.ctx ≡ l.fn.ctx) × (tracer_state l.tracer ≡ tracer_state l.fn.tracer);
}

abbrev pub decreases-steps : goal.decreases-steps
decreases-steps g l = 2 ^ (2 * length l.fn.ctx.assignment.current + 3) - steps_since l.fn.ctx.schedule l.ctx.schedule
