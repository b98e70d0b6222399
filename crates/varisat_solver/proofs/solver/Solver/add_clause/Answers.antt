use Rattle.std.proofs.Common.{true, Err, subst, ◌∙◌, not, length, arith, refl, sym, ap}
use Rattle.varisat_search.specs.declared.state.SolverState.{SolverState}
use Rattle.varisat_schedule.specs.Plans.{Plan}
use Rattle.varisat_tracer.specs.inside.TracerLaws.{checked-runs}
use Rattle.varisat_solver.specs.promises.States.{State}
use Rattle.varisat_solver.specs.promises.Calls.{by_state, count_anew, MayAccept, Ignored, Accepted, AddsClause}
use Rattle.varisat_solver.proofs.calls.CallStates.{represents-valid, proof-fits, broken, broken-invalid, adds-broken}
use Rattle.varisat_solver.proofs.accepting.AcceptClause.{not-refuted}
use Rattle.varisat_tracer.specs.inside.Tracing.{tracer_state, BreaksProof}
use Rattle.varisat_search.specs.StepErrors.{step_faults}
use Rattle.varisat_solver.specs.promises.Refusals.{returned_faults}
use Rattle.varisat_solver.specs.promises.Summaries.{Summary}
use Rattle.varisat_solver.specs.inside.Representations.{Represents, spaces_with}
use Rattle.varisat_solver.specs.promises.Targets.{WritesAll, WritesUpTo}
use Rattle.varisat_solver.specs.declared.solver.SolverError.TheVariants.{ClauseStoreFull, Invalid, ClauseAfterSolve}
use Rattle.varisat_solver.proofs.entries.Targets.{writes-nothing, refused-unwritten, logs-writes, breaks-writes, names-unwritten, names-not-full, refused-full, same-error}
use Rattle.varisat_solver.proofs.entries.OpenProofs.{broken-open, broken-on, closed-there, unclosed-there}
use Rattle.varisat_solver.proofs.accepting.Joins.{ClauseJoins, clause-joins}
use Rattle.varisat_solver.proofs.calls.ChangeEnds.{kept-changed, represents-changed, represents-broken, represents-invalid, invalid-logged}
use Rattle.varisat_solver.proofs.calls.SettingsCalls.{summary_of}
use Rattle.varisat_solver.proofs.accepting.Additions.{logged-error}
use Rattle.varisat_solver.proofs.calls.SolverCalls.{unsat-known}
use Rattle.varisat_solver.proofs.accepting.NamingStates.{may-constrain, clause-refused}
use Rattle.varisat_solver.proofs.solver.Solver.add_clause.Given.{Over}
use Rattle.varisat_solver.proofs.solver.Solver.add_clause.Goals.{In_ok-end_change}
use Rattle.varisat_solver.proofs.solver.Solver.add_clause.Goals as goal

pub accept_user_clause-accepted-requires-clause-names : goal.accept_user_clause-accepted-requires-clause-names
accept_user_clause-accepted-requires-clause-names g c = c.in_ok-check_names.ensures.0

pub accept_user_clause-accepted-requires-clause-can : goal.accept_user_clause-accepted-requires-clause-can
accept_user_clause-accepted-requires-clause-can g c =
    let i = c.self.invariant c.in_ok-ensure_valid.ensures in
    let (s, fits, fresh) = i.represents in
    record { valid = i.kept; logs = i.logs; represents = (s, fits); undecided = c.in_default.not-Unsat }

pub invariant_of-self-2 : goal.invariant_of-self-2
invariant_of-self-2 g c _ =
    let (is, counted) = c.in_ok-end_change.ensures in
    let accepted = rw is at c.accept_user_clause-accepted.ensures.accepted in
    let (s, fits, fresh) = (c.self.invariant c.in_ok-ensure_valid.ensures).represents in
    let (x, logged, variables, v, more, keep, proof, now) = accepted.represents s fits in
    kept-changed c.accept_user_clause-accepted.new.tracer.tables c.accept_user_clause-accepted.new.tracer.proof c.accept_user_clause-accepted.new.ctx
    c.end_change.new.ctx true c.end_change.new.changed_at counted accepted.kept accepted.logs (_, now, λ e. absurd cc)

pub returns-in_err-check_names-clause-call : goal.returns-in_err-check_names-clause-call
returns-in_err-check_names-clause-call g c s st =
    let q = rw (← c.self.view_is) at st in
    let ok = ap not c.in_ok-ensure_valid.ensures in
    let bad : MayAccept by_state s = record {
      unrefuted = not-refuted _ s q ok c.in_default.not-Unsat;
      unbarred = unclosed-there _ s.variables s.logged s.proof c.bars_clauses.result (proof-fits q ok) c.bars_clauses.ensures c.if-bars_clauses.false;
    } in
    let refused = logged-error c.from_residual-in_err-check_names.result c.in_err-check_names.field-0.0 c.from_residual-in_err-check_names.ensures in (
      s,
      subst (λ r. AddsClause s c.args.clause.now r s) (sym refused)
          (clause-refused _ s q (ap not c.in_ok-ensure_valid.ensures) c.args.clause.now bad c.in_err-check_names.field-0.0 c.in_err-check_names.ensures),
      st,
    )

-- the state in which the clause is accepted
joins : (g : Over) (c : In_ok-end_change g) (s : State) → Represents
    (summary_of (tracer_state c.self.inside.tracer) c.self.inside.started c.self.inside.changed_at c.self.inside.ctx) s →
    ClauseJoins s c.args.clause.now
    (spaces_with c.accept_user_clause-accepted.new.tracer.tables c.accept_user_clause-accepted.new.tracer.proof.checker c.accept_user_clause-accepted.new.ctx)
    c.accept_user_clause-accepted.new.tracer.proof.opened (length c.accept_user_clause-accepted.new.ctx.clause_alloc.words)
joins g c s st =
    let ok = ap not c.in_ok-ensure_valid.ensures in
    let (is, counted) = c.in_ok-end_change.ensures in
    let old = c.self.inside in
    let new = c.accept_user_clause-accepted.new in
    let accepted = rw is at c.accept_user_clause-accepted.ensures.accepted in
    let (x, logged, variables, v, more, keep, proof, now) = accepted.represents s (st.fits ok) in
    clause-joins s c.args.clause.now (spaces_with old.tracer.tables old.tracer.proof.checker old.ctx)
    (spaces_with new.tracer.tables new.tracer.proof.checker new.ctx) old.tracer.proof new.tracer.proof x logged variables
    (length new.ctx.clause_alloc.words) (st.fits ok) (proof-fits st ok) v more keep proof now

pub returns-clause-call : goal.returns-clause-call
returns-clause-call g c s st =
    let q = rw (← c.self.view_is) at st in
    let ok = ap not c.in_ok-ensure_valid.ensures in
    let old = c.self.inside in
    let new = c.accept_user_clause-accepted.new in
    let (is, counted) = c.in_ok-end_change.ensures in
    let bad : MayAccept by_state s = record {
      unrefuted = not-refuted _ s q ok c.in_default.not-Unsat;
      unbarred = unclosed-there _ s.variables s.logged s.proof c.bars_clauses.result (proof-fits q ok) c.bars_clauses.ensures c.if-bars_clauses.false;
    } in
    let plan = c.accept_user_clause-accepted.ensures.schedule in
    let accepted = rw is at c.accept_user_clause-accepted.ensures.accepted in
    let logs = accepted.logged in
    let j = joins g (goal.at.returns-clause-call g c).In_ok-end_change s q in (
      j.state,
      (
        represents-valid _ s q ok,
        Accepted bad
            (may-constrain _ s q ok c.args.clause.now c.in_ok-check_names.ensures.0 c.in_ok-check_names.ensures.1)
            j.accepts,
      ),
      represents-changed (tracer_state old.tracer) (tracer_state new.tracer) old.started old.changed_at c.end_change.new.changed_at old.ctx new.ctx
          c.end_change.new.ctx s j.state q counted (ap (λ (x : SolverState). x.state_is_invalid) accepted.state) (ap (λ (x : Plan). x.steps) plan.schedule)
          plan.solver_config (checked-runs old.tracer.proof.checker new.tracer.proof.checker logs.0 logs.1.checked) j.ledger j.size j.fits j.proof
          (j.flags (q.flags ok)) accepted.kept.bounded,
    )

pub returns-in_err-end_change-clause-call : goal.returns-in_err-end_change-clause-call
returns-in_err-end_change-clause-call g c s st =
    let q = rw (← c.self.view_is) at st in
    let ok = ap not c.in_ok-ensure_valid.ensures in
    let old = c.self.inside in
    let new = c.accept_user_clause-accepted.new in
    let (error, is, logged, made, count) = c.in_err-end_change.ensures in
    let bad : MayAccept by_state s = record {
      unrefuted = not-refuted _ s q ok c.in_default.not-Unsat;
      unbarred = unclosed-there _ s.variables s.logged s.proof c.bars_clauses.result (proof-fits q ok) c.bars_clauses.ensures c.if-bars_clauses.false;
    } in
    let k = c.accept_user_clause-accepted.ensures.schedule in
    let failed = rw is at c.accept_user_clause-accepted.ensures.fails in
    let fails = failed.broken in
    let words = length new.ctx.clause_alloc.words in
    let refused = logged-error c.from_residual-in_err-end_change.result c.in_err-end_change.field-0.0 c.from_residual-in_err-end_change.ensures ∙ ap Err logged in
    let (now, goes, same) = broken-on old.tracer.proof new.tracer.proof (step_faults error) s.proof q.same fails in (
      broken now words s,
      subst (λ r. AddsClause s c.args.clause.now r (broken now words s)) (sym refused)
          (adds-broken error s (broken now words s) c.args.clause.now
          (λ f. broken-open old.tracer.proof new.tracer.proof s.variables s.logged s.proof (proof-fits q ok)
          (subst (λ n. BreaksProof old.tracer.proof n new.tracer.proof) f fails)) bad
          (may-constrain _ s q ok c.args.clause.now c.in_ok-check_names.ensures.0 c.in_ok-check_names.ensures.1)
          (broken-invalid (step_faults error) s now words (represents-valid _ s q ok) goes)
          (λ f. let room = failed.full f in let few = failed.size f s (q.fits ok) in omega (arith, room, few))),
      represents-broken (tracer_state old.tracer) (tracer_state new.tracer) old.started old.changed_at c.end_change.new.changed_at old.ctx new.ctx
          c.end_change.new.ctx s now q made count (ap (λ (x : Plan). x.steps) k.schedule) k.solver_config fails.2 same,
    )

pub returns-in-Unsat-clause-call : goal.returns-in-Unsat-clause-call
returns-in-Unsat-clause-call g c s st =
    let q = rw (← c.self.view_is) at st in (
      count_anew s,
      (represents-valid _ s q (ap not c.in_ok-ensure_valid.ensures), Ignored (unsat-known _ s q (ap not c.in_ok-ensure_valid.ensures) c.in-Unsat.is) refl),
      c.begin_count.ensures.call s st,
    )

pub returns-then-bars_clauses-clause-call : goal.returns-then-bars_clauses-clause-call
returns-then-bars_clauses-clause-call g c s st =
    let q = rw (← c.self.view_is) at st in
    let ok = ap not c.in_ok-ensure_valid.ensures in (
      s,
      (
        represents-valid _ s q ok,
        not-refuted _ s q ok c.in_default.not-Unsat,
        closed-there _ s.variables s.logged s.proof c.bars_clauses.result
            (proof-fits q ok) c.bars_clauses.ensures c.if-bars_clauses.true,
        refl,
      ),
      st,
    )

pub returns-in-Unsat-clause-target : goal.returns-in-Unsat-clause-target
returns-in-Unsat-clause-target g c =
    subst (WritesAll c.args.self.now.opened) (sym (ap (λ (x : Summary). x.opened) c.begin_count.ensures.frame)) (writes-nothing c.args.self.now.opened)

pub returns-then-bars_clauses-clause-target : goal.returns-then-bars_clauses-clause-target
returns-then-bars_clauses-clause-target g c = refused-unwritten c.args.self.now.opened ClauseAfterSolve refl

pub returns-in_err-check_names-clause-target : goal.returns-in_err-check_names-clause-target
returns-in_err-check_names-clause-target g c =
    let e = c.in_err-check_names.field-0.0 in
    let refused = logged-error c.from_residual-in_err-check_names.result e c.from_residual-in_err-check_names.ensures in
    rw refused (names-unwritten c.args.self.now.opened c.self.inside.tracer.tables c.args.clause.now e c.in_err-check_names.ensures)

pub returns-clause-target : goal.returns-clause-target
returns-clause-target g c =
    let (is, counted) = c.in_ok-end_change.ensures in
    let accepted = rw is at c.accept_user_clause-accepted.ensures.accepted in
    rw (← c.self.view_is) (logs-writes c.self.inside.tracer.proof c.accept_user_clause-accepted.new.tracer.proof accepted.logged)

pub returns-in_err-end_change-clause-target : goal.returns-in_err-end_change-clause-target
returns-in_err-end_change-clause-target g c =
    let (error, is, logged, made, count) = c.in_err-end_change.ensures in
    let failed = rw is at c.accept_user_clause-accepted.ensures.fails in
    let old = c.self.inside.tracer.proof in
    let new = c.accept_user_clause-accepted.new.tracer.proof in
    let refused = logged-error c.from_residual-in_err-end_change.result c.in_err-end_change.field-0.0 c.from_residual-in_err-end_change.ensures in
    rw refused (rw (← c.self.view_is)
    (subst (λ e. WritesUpTo (returned_faults e) old.opened new.opened) (sym logged) (breaks-writes old new error failed.broken)))

pub returns-in_err-check_names-clause-full : goal.returns-in_err-check_names-clause-full
returns-in_err-check_names-clause-full g c f =
    let e = c.in_err-check_names.field-0.0 in
    absurd (names-not-full c.self.inside.tracer.tables c.args.clause.now e c.in_err-check_names.ensures
    (same-error e ClauseStoreFull (sym (logged-error c.from_residual-in_err-check_names.result e c.from_residual-in_err-check_names.ensures) ∙ f)))

pub returns-in_err-end_change-clause-full : goal.returns-in_err-end_change-clause-full
returns-in_err-end_change-clause-full g c f =
    let (error, is, logged, made, count) = c.in_err-end_change.ensures in
    let failed = rw is at c.accept_user_clause-accepted.ensures.fails in
    let e = c.in_err-end_change.field-0.0 in
    let refused = logged-error c.from_residual-in_err-end_change.result e c.from_residual-in_err-end_change.ensures in
    rw made (failed.full (refused-full error (sym logged ∙ same-error e ClauseStoreFull (sym refused ∙ f))))

pub returns-in_err-ensure_valid-clause-call : goal.returns-in_err-ensure_valid-clause-call
returns-in_err-ensure_valid-clause-call g c s st =
    let q = rw (← c.self.view_is) at st in
    let refused = invalid-logged c.from_residual.result c.in_err-ensure_valid.field-0.0 c.from_residual.ensures c.in_err-ensure_valid.ensures.0 in
    (s, subst (λ r. AddsClause s c.args.clause.now r s) (sym refused) (represents-invalid _ s q (ap not c.in_err-ensure_valid.ensures.1), refl), st)

pub returns-in_err-ensure_valid-clause-target : goal.returns-in_err-ensure_valid-clause-target
returns-in_err-ensure_valid-clause-target g c =
    let refused = invalid-logged c.from_residual.result c.in_err-ensure_valid.field-0.0 c.from_residual.ensures c.in_err-ensure_valid.ensures.0 in
    rw refused (refused-unwritten c.args.self.now.opened Invalid refl)
