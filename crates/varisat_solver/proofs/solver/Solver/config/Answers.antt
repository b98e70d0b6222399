use Rattle.std.proofs.Common.{not, refl, ap, sym, subst}
use Rattle.varisat_search.specs.declared.context.Context.{Context}
use Rattle.varisat_solver.specs.inside.Representations.{spaces_with, RepresentsSome}
use Rattle.varisat_tracer.specs.inside.Tracing.{tracer_state}
use Rattle.varisat_solver.specs.promises.Calls.{with_update, Configures}
use Rattle.varisat_solver.proofs.calls.CallStates.{represents-valid}
use Rattle.varisat_solver.proofs.calls.SettingsCalls.{represents-updated, represents-same, kept-updated}
use Rattle.varisat_solver.proofs.steps.SinceSteps.{since-now}
use Rattle.varisat_solver.proofs.calls.ChangeEnds.{represents-invalid, invalid-logged}
use Rattle.varisat_solver.proofs.solver.Solver.config.Goals as goal

pub returns : goal.returns
returns g c s st =
    let q = rw (← c.self.view_is) at st in
    let e = c.in-Ok.ensures.changed in (
      with_update c.args.update.now s,
      (represents-valid _ s q (ap not c.in_ok-ensure_valid.ensures), e.0, refl),
      represents-updated
          (tracer_state c.self.inside.tracer) c.self.inside.started c.self.inside.changed_at c.steps-self-inside.result c.self.inside.ctx
          c.config_changed.new.self c.args.update.now _ _ s e.1 c.steps-self-inside.ensures.steps q,
    )

pub returns-in-Err : goal.returns-in-Err
returns-in-Err g c s st =
    let q = rw (← c.self.view_is) at st in
    let e = c.in-Err.ensures.changed in (
      s,
      (represents-valid _ s q (ap not c.in_ok-ensure_valid.ensures), e.0, refl),
      represents-same
          (tracer_state c.self.inside.tracer) c.self.inside.started c.self.inside.changed_at c.self.inside.ctx c.config_changed.new.self s e.1 q,
    )

pub invariant_of-self-2 : goal.invariant_of-self-2
invariant_of-self-2 g c v =
    let x = c.self.inside.ctx in
    let y = c.config_changed.new.self in
    let e = c.in-Ok.ensures.changed in
    let k = (c.self.invariant c.in_ok-ensure_valid.ensures).kept in
    let ready = c.config_changed.ensures.ready k.ready in
    record {
      kept = kept-updated c.self.inside.tracer.tables x y c.args.update.now _ _ e.1 ready c.config_changed.ensures.decidable k;
      represents = subst (λ (z : Context g.row.A.Denot). RepresentsSome
          (spaces_with c.self.inside.tracer.tables c.self.inside.tracer.proof.checker z) c.self.inside.started) (sym e.1)
          (c.self.invariant c.in_ok-ensure_valid.ensures).represents;
      logs = (c.self.invariant c.in_ok-ensure_valid.ensures).logs;
      counts = since-now c.steps-self-inside.result y c.steps-self-inside.ensures.steps ready c.steps-self-inside.ensures.plan;
    }

pub returns-in_err-ensure_valid : goal.returns-in_err-ensure_valid
returns-in_err-ensure_valid g c s st =
    let q = rw (← c.self.view_is) at st in
    let refused = invalid-logged c.from_residual.result c.in_err-ensure_valid.field-0.0 c.from_residual.ensures c.in_err-ensure_valid.ensures.0 in
    (s, subst (λ r. Configures s c.args.update.now r s) (sym refused) (represents-invalid _ s q (ap not c.in_err-ensure_valid.ensures.1), refl), st)
