use Rattle.std.proofs.Common.{refl}
use Rattle.varisat_tracer.specs.inside.Tracing.{tracer_state}
use Rattle.varisat_solver.proofs.calls.SettingsCalls.{represents-anew}
use Rattle.varisat_solver.proofs.steps.SinceSteps.{since-now}
use Rattle.varisat_solver.proofs.solver.Solver.begin_count.Goals as goal

pub invariant_of-self : goal.invariant_of-self
invariant_of-self g c v =
    let k = (c.self.invariant v).kept in
    record {
      kept = k;
      logs = (c.self.invariant v).logs;
      represents = (c.self.invariant v).represents;
      counts =
          since-now c.steps-self-inside.result c.self.inside.ctx c.steps-self-inside.ensures.steps k.ready c.steps-self-inside.ensures.plan;
    }

pub returns-clause-call : goal.returns-clause-call
returns-clause-call g c s st = represents-anew (tracer_state c.self.inside.tracer) c.self.inside.started c.self.inside.changed_at c.steps-self-inside.result
    c.self.inside.ctx s c.steps-self-inside.ensures.steps (rw (← c.self.view_is) at st)

pub returns-clause-frame : goal.returns-clause-frame
returns-clause-frame g c = rw (← c.self.view_is) refl
