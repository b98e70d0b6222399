use Rattle.std.proofs.Common.{◌∙◌, not, subst, refl, sym, ap, length, true, Err}
use Rattle.varisat_search.specs.declared.state.SolverState.{SolverState}
use Rattle.varisat_schedule.specs.Plans.{Plan}
use Rattle.varisat_tracer.specs.inside.TracerLaws.{checked-runs}
use Rattle.varisat_solver.specs.promises.Refusals.{returned_faults}
use Rattle.varisat_search.specs.StepErrors.{step_faults}
use Rattle.varisat_solver.specs.promises.Targets.{WritesUpTo}
use Rattle.varisat_tracer.specs.inside.Tracing.{tracer_state, BreaksProof}
use Rattle.varisat_solver.specs.promises.OpenProofs.{BarsAssumptions}
use Rattle.varisat_solver.specs.inside.Representations.{Represents, spaces_with}
use Rattle.varisat_solver.proofs.calls.ChangeEnds.{kept-changed, represents-changed, represents-broken, represents-invalid, invalid-logged}
use Rattle.varisat_solver.proofs.calls.SettingsCalls.{summary_of}
use Rattle.varisat_solver.proofs.accepting.Joins.{ListJoins, list-joins}
use Rattle.varisat_solver.specs.promises.States.{State}
use Rattle.varisat_solver.specs.declared.solver.SolverError.TheVariants.{Invalid, ProofOpen, ProofIoError}
use Rattle.varisat_solver.specs.promises.Calls.{Assumes}
use Rattle.varisat_solver.proofs.entries.OpenProofs.{barred-there, unbarred-there, broken-open, broken-on}
use Rattle.varisat_solver.proofs.entries.Targets.{refused-unwritten, logs-writes, breaks-writes, names-unwritten, names-not-broken, broken-not-memory, same-error}
use Rattle.varisat_solver.proofs.calls.CallStates.{represents-valid, proof-fits, broken, broken-invalid, assumes-broken}
use Rattle.varisat_solver.proofs.accepting.Additions.{logged-error}
use Rattle.varisat_solver.proofs.accepting.NamingStates.{may-constrain, list-refused}
use Rattle.varisat_solver.proofs.solver.Solver.assume.Given.{Over}
use Rattle.varisat_solver.proofs.solver.Solver.assume.Goals.{In_ok-end_change}
use Rattle.varisat_solver.proofs.solver.Solver.assume.Goals as goal

pub assume_list-assumed-requires-clause-names : goal.assume_list-assumed-requires-clause-names
assume_list-assumed-requires-clause-names g c = c.in_ok-check_names.ensures.0

pub invariant_of-self-2 : goal.invariant_of-self-2
invariant_of-self-2 g c _ =
    let (is, counted) = c.in_ok-end_change.ensures in
    let new = c.assume_list-assumed.new in
    let (s, fits, fresh) = (c.self.invariant c.in_ok-ensure_valid.ensures).represents in
    let assumed = rw is at c.assume_list-assumed.ensures.assumed in
    let (variables, keep, proof, now) = assumed.represents s fits in
    kept-changed new.tracer.tables new.tracer.proof new.ctx c.end_change.new.ctx true c.end_change.new.changed_at counted
    assumed.kept assumed.logs (_, now, λ e. absurd cc)

pub returns-in_err-check_names-clause-call : goal.returns-in_err-check_names-clause-call
returns-in_err-check_names-clause-call g c s st =
    let q = rw (← c.self.view_is) at st in
    let ok = ap not c.in_ok-ensure_valid.ensures in
    let refused = logged-error c.from_residual-in_err-check_names.result c.in_err-check_names.field-0.0 c.from_residual-in_err-check_names.ensures in (
      s,
      subst (λ r. Assumes s c.args.lits.now r s) (sym refused)
          (list-refused _ s q ok c.args.lits.now
          (unbarred-there _ s.variables s.logged s.proof c.bars_assumptions.result (proof-fits q ok) c.bars_assumptions.ensures c.if-bars_assumptions.false)
          c.in_err-check_names.field-0.0 c.in_err-check_names.ensures),
      st,
    )

-- the state in which the list is assumed
joins : (g : Over) (c : In_ok-end_change g) (s : State) → Represents
    (summary_of (tracer_state c.self.inside.tracer) c.self.inside.started c.self.inside.changed_at c.self.inside.ctx) s → (BarsAssumptions s.proof → ⊥) →
    ListJoins s c.args.lits.now
    (spaces_with c.assume_list-assumed.new.tracer.tables c.assume_list-assumed.new.tracer.proof.checker c.assume_list-assumed.new.ctx)
    c.assume_list-assumed.new.tracer.proof.opened (length c.assume_list-assumed.new.ctx.clause_alloc.words)
joins g c s st free =
    let ok = ap not c.in_ok-ensure_valid.ensures in
    let (is, counted) = c.in_ok-end_change.ensures in
    let old = c.self.inside in
    let new = c.assume_list-assumed.new in
    let assumed = rw is at c.assume_list-assumed.ensures.assumed in
    let (variables, keep, proof, now) = assumed.represents s (st.fits ok) in
    list-joins s c.args.lits.now (spaces_with old.tracer.tables old.tracer.proof.checker old.ctx)
    (spaces_with new.tracer.tables new.tracer.proof.checker new.ctx) old.tracer.proof new.tracer.proof variables
    (length new.ctx.clause_alloc.words) (st.fits ok) (proof-fits st ok) free keep proof now

pub returns-clause-call : goal.returns-clause-call
returns-clause-call g c s st =
    let q = rw (← c.self.view_is) at st in
    let ok = ap not c.in_ok-ensure_valid.ensures in
    let old = c.self.inside in
    let new = c.assume_list-assumed.new in
    let (is, counted) = c.in_ok-end_change.ensures in
    let free = unbarred-there _ s.variables s.logged s.proof c.bars_assumptions.result (proof-fits q ok) c.bars_assumptions.ensures c.if-bars_assumptions.false in
    let plan = c.assume_list-assumed.ensures.schedule in
    let assumed = rw is at c.assume_list-assumed.ensures.assumed in
    let logs = assumed.logged in
    let j = joins g (goal.at.returns-clause-call g c).In_ok-end_change s q free in (
      j.state,
      (
        represents-valid _ s q ok,
        free,
        may-constrain _ s q ok c.args.lits.now c.in_ok-check_names.ensures.0 c.in_ok-check_names.ensures.1,
        j.takes,
      ),
      represents-changed (tracer_state old.tracer) (tracer_state new.tracer) old.started old.changed_at c.end_change.new.changed_at old.ctx new.ctx
          c.end_change.new.ctx s j.state q counted (ap (λ (x : SolverState). x.state_is_invalid) assumed.state) (ap (λ (x : Plan). x.steps) plan.schedule)
          plan.solver_config (checked-runs old.tracer.proof.checker new.tracer.proof.checker _ logs.1.checked) j.ledger j.size j.fits j.proof
          j.flags assumed.kept.bounded,
    )

pub returns-in_err-end_change-clause-call : goal.returns-in_err-end_change-clause-call
returns-in_err-end_change-clause-call g c s st =
    let q = rw (← c.self.view_is) at st in
    let ok = ap not c.in_ok-ensure_valid.ensures in
    let old = c.self.inside in
    let new = c.assume_list-assumed.new in
    let (error, is, logged, made, count) = c.in_err-end_change.ensures in
    let free = unbarred-there _ s.variables s.logged s.proof c.bars_assumptions.result (proof-fits q ok) c.bars_assumptions.ensures c.if-bars_assumptions.false in
    let k = c.assume_list-assumed.ensures.schedule in
    let fails = rw is at c.assume_list-assumed.ensures.broken in
    let words = length new.ctx.clause_alloc.words in
    let refused = logged-error c.from_residual-in_err-end_change.result c.in_err-end_change.field-0.0 c.from_residual-in_err-end_change.ensures ∙ ap Err logged in
    let (now, goes, same) = broken-on old.tracer.proof new.tracer.proof (step_faults error) s.proof q.same fails in (
      broken now words s,
      subst (λ r. Assumes s c.args.lits.now r (broken now words s)) (sym refused)
          (assumes-broken error s (broken now words s) c.args.lits.now (rw is at c.assume_list-assumed.ensures.unstored)
          (λ f. broken-open old.tracer.proof new.tracer.proof s.variables s.logged s.proof (proof-fits q ok)
          (subst (λ n. BreaksProof old.tracer.proof n new.tracer.proof) f fails)) free
          (may-constrain _ s q ok c.args.lits.now c.in_ok-check_names.ensures.0 c.in_ok-check_names.ensures.1)
          (broken-invalid (step_faults error) s now words (represents-valid _ s q ok) goes)),
      represents-broken (tracer_state old.tracer) (tracer_state new.tracer) old.started old.changed_at c.end_change.new.changed_at old.ctx new.ctx
          c.end_change.new.ctx s now q made count (ap (λ (x : Plan). x.steps) k.schedule) k.solver_config fails.2 same,
    )

pub returns-then-bars_assumptions-clause-call : goal.returns-then-bars_assumptions-clause-call
returns-then-bars_assumptions-clause-call g c s st =
    let q = rw (← c.self.view_is) at st in
    let ok = ap not c.in_ok-ensure_valid.ensures in (
      s,
      (
        represents-valid _ s q ok,
        barred-there _ s.variables s.logged s.proof c.bars_assumptions.result (proof-fits q ok) c.bars_assumptions.ensures c.if-bars_assumptions.true,
        refl,
      ),
      st,
    )

pub returns-then-bars_assumptions-clause-target : goal.returns-then-bars_assumptions-clause-target
returns-then-bars_assumptions-clause-target g c = refused-unwritten c.args.self.now.opened ProofOpen refl

pub returns-in_err-check_names-clause-target : goal.returns-in_err-check_names-clause-target
returns-in_err-check_names-clause-target g c =
    let e = c.in_err-check_names.field-0.0 in
    let refused = logged-error c.from_residual-in_err-check_names.result e c.from_residual-in_err-check_names.ensures in
    rw refused (names-unwritten c.args.self.now.opened c.self.inside.tracer.tables c.args.lits.now e c.in_err-check_names.ensures)

pub returns-clause-target : goal.returns-clause-target
returns-clause-target g c =
    let (is, counted) = c.in_ok-end_change.ensures in
    let assumed = rw is at c.assume_list-assumed.ensures.assumed in
    rw (← c.self.view_is) (logs-writes c.self.inside.tracer.proof c.assume_list-assumed.new.tracer.proof assumed.logged)

pub returns-in_err-end_change-clause-target : goal.returns-in_err-end_change-clause-target
returns-in_err-end_change-clause-target g c =
    let (error, is, logged, made, count) = c.in_err-end_change.ensures in
    let fails = rw is at c.assume_list-assumed.ensures.broken in
    let old = c.self.inside.tracer.proof in
    let new = c.assume_list-assumed.new.tracer.proof in
    let refused = logged-error c.from_residual-in_err-end_change.result c.in_err-end_change.field-0.0 c.from_residual-in_err-end_change.ensures in
    rw refused (rw (← c.self.view_is)
    (subst (λ e. WritesUpTo (returned_faults e) old.opened new.opened) (sym logged) (breaks-writes old new error fails)))

pub returns-in_err-check_names-clause-last : goal.returns-in_err-check_names-clause-last
returns-in_err-check_names-clause-last g c cause f =
    let e = c.in_err-check_names.field-0.0 in
    absurd (names-not-broken c.self.inside.tracer.tables c.args.lits.now e cause c.in_err-check_names.ensures
    (same-error e (ProofIoError cause) (sym (logged-error c.from_residual-in_err-check_names.result e c.from_residual-in_err-check_names.ensures) ∙ f)))

pub returns-in_err-end_change-clause-last : goal.returns-in_err-end_change-clause-last
returns-in_err-end_change-clause-last g c cause f =
    let (error, is, logged, made, count) = c.in_err-end_change.ensures in
    let last = rw is at c.assume_list-assumed.ensures.last in
    let e = c.in_err-end_change.field-0.0 in
    let refused = logged-error c.from_residual-in_err-end_change.result e c.from_residual-in_err-end_change.ensures in
    rw made (last (broken-not-memory error cause (sym logged ∙ same-error e (ProofIoError cause) (sym refused ∙ f))))

pub returns-in_err-ensure_valid-clause-call : goal.returns-in_err-ensure_valid-clause-call
returns-in_err-ensure_valid-clause-call g c s st =
    let q = rw (← c.self.view_is) at st in
    let refused = invalid-logged c.from_residual.result c.in_err-ensure_valid.field-0.0 c.from_residual.ensures c.in_err-ensure_valid.ensures.0 in
    (s, subst (λ r. Assumes s c.args.lits.now r s) (sym refused) (represents-invalid _ s q (ap not c.in_err-ensure_valid.ensures.1), refl), st)

pub returns-in_err-ensure_valid-clause-target : goal.returns-in_err-ensure_valid-clause-target
returns-in_err-ensure_valid-clause-target g c =
    let refused = invalid-logged c.from_residual.result c.in_err-ensure_valid.field-0.0 c.from_residual.ensures c.in_err-ensure_valid.ensures.0 in
    rw refused (refused-unwritten c.args.self.now.opened Invalid refl)
