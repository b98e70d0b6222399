use Rattle.std.proofs.Common.{◌∙◌, not, sym, subst, ap, refl, length, Err}
use Rattle.varisat_solver.specs.promises.States.{Ledger}
use Rattle.varisat_solver.specs.promises.Calls.{with_naming, count_anew}
use Rattle.varisat_solver.specs.promises.Usage.{Observes}
use Rattle.varisat_solver.specs.promises.ReturnedLists.{returned_variables}
use Rattle.varisat_solver.proofs.accepting.AcceptClause.{ledger-free}
use Rattle.varisat_solver.proofs.accepting.Additions.{logged-error}
use Rattle.varisat_solver.proofs.calls.CallStates.{ledger-is, none-since, begins, like-refl, broken, broken-unlogged}
use Rattle.varisat_solver.proofs.calls.ChangeEnds.{kept-changed, represents-broken, represents-invalid, invalid-logged}
use Rattle.varisat_solver.proofs.modes.VariableChanges.{turns-stay}
use Rattle.varisat_solver.proofs.calls.SettingsCalls.{summary_of, represents-same}
use Rattle.varisat_tracer.specs.inside.Tracing.{tracer_state}
use Rattle.varisat_solver.proofs.modes.VariableStates.{show-state, kept-after}
use Rattle.varisat_solver.proofs.solver.Solver.observe_internal_vars.Goals as goal

pub invariant_of-self-2 : goal.invariant_of-self-2
invariant_of-self-2 g c v =
    let (is, counted) = c.in_ok-names.ensures in
    let i = c.self.invariant c.in_ok-ensure_valid.ensures in
    let inside = c.self.inside in
    let old = inside.tracer.tables in
    let new = c.observe_internal_vars-shown.new.variables in
    let us = c.in_ok-names.names.items in
    let shown = rw is at c.observe_internal_vars-shown.ensures.shown in
    kept-changed new inside.tracer.proof inside.ctx c.end_change.new.ctx inside.started c.end_change.new.changed_at counted
    (kept-after inside.ctx old new i.kept (turns-stay us old new c.prove_linked.ensures i.kept.bounded shown.in_turn).0) i.logs (
    let (s, f, fresh) = i.represents in
    let (m, all, fits) = show-state us (summary_of (tracer_state inside.tracer) inside.started inside.changed_at inside.ctx) s new f
    c.prove_linked.ensures i.kept.bounded shown in (_, fits, fresh)
    )

pub returns : goal.returns
returns g c s st =
    let (is, counted) = c.in_ok-names.ensures in
    let q = rw (← c.self.view_is) at st in
    let k = begins q (ap not c.in_ok-ensure_valid.ensures) in
    let inside = c.self.inside in
    let kept = (c.self.invariant c.in_ok-ensure_valid.ensures).kept in
    let old = inside.tracer.tables in
    let new = c.observe_internal_vars-shown.new.variables in
    let us = c.in_ok-names.names.items in
    let all = rw is at c.observe_internal_vars-shown.ensures.shown in
    let (m, shown, fits) = show-state us (summary_of (tracer_state inside.tracer) inside.started inside.changed_at inside.ctx) s
    new k.fits c.prove_linked.ensures kept.bounded all in (
      count_anew (with_naming m s),
      (k.valid, (m, shown, like-refl (count_anew (with_naming m s)))),
      represents-same (record { tables = new; proof = inside.tracer.proof }) inside.started c.end_change.new.changed_at inside.ctx c.end_change.new.ctx
          (count_anew (with_naming m s)) counted.same (record {
            ledger = ledger-is _ _ _ _ _ _ _ (ap (λ (x : Ledger). x.valid) k.ledger) (ap (λ (x : Ledger). x.started) k.ledger)
                (ap (λ (x : Ledger). x.steps) k.ledger)
                (none-since c.end_change.new.changed_at inside.ctx.schedule.steps counted.steps)
                (ap (λ (x : Ledger). x.settings) k.ledger) (ap (λ (x : Ledger). x.checking) k.ledger);
            fits = λ _. (fits.0, ledger-free fits.0 _ (with_naming m s) (record s.ledger { since = 0 }) fits.1);
            words = q.words;
            same = q.same;
            written = q.written;
            bounded = λ _. (kept-after inside.ctx old new kept (turns-stay us old new c.prove_linked.ensures kept.bounded all.in_turn).0).bounded;
            flags = λ _. let f = k.flags in record {
              clauses = f.clauses;
              assumptions = f.assumptions;
              counted = f.counted;
              unlisted = f.unlisted;
              unassumed = f.unassumed;
            };
          }),
    )

pub returns-in_err-names : goal.returns-in_err-names
returns-in_err-names g c s st =
    let (error, is, logged, made, count) = c.in_err-names.ensures in
    let q = rw (← c.self.view_is) at st in
    let k = begins q (ap not c.in_ok-ensure_valid.ensures) in
    let inside = c.self.inside in
    let words = length inside.ctx.clause_alloc.words in
    let refused = logged-error c.from_residual-in_err-names.result c.in_err-names.field-0.0 c.from_residual-in_err-names.ensures ∙ ap Err logged in (
      broken s.proof words s,
      subst (λ r. Observes s (returned_variables r) (broken s.proof words s)) (sym refused) (broken-unlogged s words k.valid),
      represents-broken (tracer_state inside.tracer) (record { tables = c.observe_internal_vars-shown.new.variables; proof = inside.tracer.proof })
          inside.started inside.changed_at c.end_change.new.changed_at inside.ctx inside.ctx c.end_change.new.ctx s s.proof q made count
          refl refl refl q.same,
    )

pub returns-in_err-ensure_valid : goal.returns-in_err-ensure_valid
returns-in_err-ensure_valid g c s st =
    let q = rw (← c.self.view_is) at st in
    let refused = invalid-logged c.from_residual.result c.in_err-ensure_valid.field-0.0 c.from_residual.ensures c.in_err-ensure_valid.ensures.0 in
    (s, subst (λ r. Observes s (returned_variables r) s) (sym refused) (represents-invalid _ s q (ap not c.in_err-ensure_valid.ensures.1), refl), st)
