-- The limit of steps is another one, and nothing else.
use Rattle.std.proofs.Common.{Some, ap, sym, ◌∙◌, subst}
use Rattle.varisat_names.specs.promises.Settings.{no_update}
use Rattle.varisat_search.specs.declared.context.Context.{Context}
use Rattle.varisat_tracer.specs.inside.Tracing.{tracer_state}
use Rattle.varisat_solver.specs.inside.Representations.{spaces_with, RepresentsSome}
use Rattle.varisat_solver.proofs.calls.SettingsCalls.{limits-steps, represents-limited, counts-limited, kept-updated}
use Rattle.varisat_solver.proofs.solver.Solver.set_max_steps.Goals as goal

pub returns : goal.returns
returns g c s st =
    let q = rw (← c.self.view_is) at st in
    let x = c.self.inside.ctx in
    let y = c.config_changed.new.self in
    let n = c.args.max_steps in
    let (b, a, e) = limits-steps n x y c.new-update.result c.config_changed.result c.new-update.ensures c.config_changed.ensures.changed in
    represents-limited (tracer_state c.self.inside.tracer) c.self.inside.started c.self.inside.changed_at n x y b a s e q

pub invariant_of-self : goal.invariant_of-self
invariant_of-self g c v =
    let x = c.self.inside.ctx in
    let y = c.config_changed.new.self in
    let n = c.args.max_steps in
    let (b, a, e) = limits-steps n x y c.new-update.result c.config_changed.result c.new-update.ensures c.config_changed.ensures.changed in
    let k = c.self.invariant (sym (ap (λ (z : Context g.row.A.Denot). z.solver_state.state_is_invalid) e) ∙ v) in
    record {
      kept = kept-updated c.self.inside.tracer.tables x y (record no_update { max_steps = Some n }) b a e
          (c.config_changed.ensures.ready k.kept.ready) c.config_changed.ensures.decidable k.kept;
      represents = subst (λ (z : Context g.row.A.Denot). RepresentsSome
          (spaces_with c.self.inside.tracer.tables c.self.inside.tracer.proof.checker z) c.self.inside.started) (sym e) k.represents;
      logs = k.logs;
      counts = counts-limited c.self.inside.changed_at n x y b a e c.config_changed.ensures.decidable k.counts;
    }
