-- The variable's mode changes, and it may leave; or the call is refused.
use Rattle.std.proofs.Common.{◌≡◌, ◌<◌, ◌∙◌, ℕ, Bool, Option, not, subst, sym, ap, refl, length, Ok, Err}
use Rattle.varisat_proof.specs.promises.Proving.{ProofParts, is_there}
use Rattle.varisat_tracer.specs.inside.Tracing.{TracerState, tracer_state}
use Rattle.varisat_tracer.specs.inside.TracerLaws.{checked-runs}
use Rattle.varisat_literals.specs.promises.Numbers.{variable_limit}
use Rattle.varisat_names.specs.declared.variables.data.SamplingMode.{SamplingMode}
use Rattle.varisat_search.specs.declared.context.Context.{Context}
use Rattle.varisat_solver.specs.promises.OpenProofs.{OpenProof, ProofFits, GoesOnWriting}
use Rattle.varisat_solver.specs.inside.Accepting.{AreBounded}
use Rattle.varisat_solver.specs.inside.Changes.{CountsAnew}
use Rattle.varisat_solver.specs.inside.Representations.{Represents}
use Rattle.varisat_solver.specs.promises.States.{State, Ledger, with_variables}
use Rattle.varisat_solver.specs.promises.Journals.{with_entries}
use Rattle.varisat_solver.specs.promises.Usage.{IsAssumed, ChangesMode}
use Rattle.varisat_solver.proofs.entries.StepEntries.{leaving-derived}
use Rattle.varisat_solver.proofs.accepting.AcceptClause.{proof-free}
use Rattle.varisat_solver.proofs.accepting.Additions.{logged-error}
use Rattle.varisat_solver.proofs.calls.CallStates.{Begins, ledger-is, none-since, begins, broken, broken-unlogged}
use Rattle.varisat_solver.proofs.calls.ChangeEnds.{kept-changed, represents-broken, represents-invalid, invalid-logged}
use Rattle.varisat_solver.proofs.entries.LoggedEntries.{lists-derived, lists-on}
use Rattle.varisat_solver.proofs.modes.ModeChanges.{ModeChanged, changed-stays, changed-logs, with_changed, mode-changed, mode-invalid, mode-not-changed, mode-broken}
use Rattle.varisat_solver.proofs.entries.OpenProofs.{proof-goes-on, lines-of-entries, barred-before, written-alike}
use Rattle.varisat_solver.proofs.calls.SettingsCalls.{summary_of, represents-same}
use Rattle.varisat_solver.proofs.modes.VariableStates.{unassumed-state, kept-after}
use Rattle.varisat_solver.proofs.solver.Solver.set_mode.Goals as goal

pub invariant_of-self-2 : goal.invariant_of-self-2
invariant_of-self-2 g c v =
    let (is, counted) = c.in_ok-end_change.ensures in
    let i = c.self.invariant c.in_ok-ensure_valid.ensures in
    let old = c.self.inside in
    let new = tracer_state c.change_mode-changed.new.tracer in
    let sat = old.ctx.solver_state.sat_state in
    let changes = rw is at c.change_mode-changed.ensures.changes in
    kept-changed new.tables new.proof old.ctx c.end_change.new.ctx old.started c.end_change.new.changed_at counted
    (kept-after old.ctx old.tracer.tables new.tables i.kept (changed-stays c.args.var c.args.mode sat (tracer_state old.tracer) new changes))
    (changed-logs c.args.var c.args.mode sat (tracer_state old.tracer) new changes i.logs) (
    let (s, f, fresh) = i.represents in
    let m = mode-changed (summary_of (tracer_state old.tracer) old.started old.changed_at old.ctx) s c.args.var old.tracer.proof new refl f
    c.args.mode changes in
    (_, m.fits, fresh)
    )

pub returns-in_err-check_change : goal.returns-in_err-check_change
returns-in_err-check_change g c s st =
    let k = begins (rw (← c.self.view_is) at st) (ap not c.in_ok-ensure_valid.ensures) in
    let refused = logged-error c.from_residual-in_err-check_change.result c.in_err-check_change.field-0.0 c.from_residual-in_err-check_change.ensures in (
      s,
      subst (λ r. ChangesMode c.args.mode s c.args.var r s) (sym refused)
          (mode-not-changed c.args.mode c.args.var c.in_err-check_change.field-0.0 k c.in_err-check_change.ensures),
      st,
    )

-- What the solver represents once the mode is set, over plain values.
module _ {A : Type 0} (o q : TracerState) (started : Bool) (changed_at now : ℕ) (x : Context A) (s : State) (u : ℕ) (mode : SamplingMode)
    (k : Begins (summary_of o started changed_at x) s) (m : ModeChanged mode (summary_of o started changed_at x) s u o.proof q) where
  abbrev after : Option OpenProof → State
  after proof = record (with_changed mode u s) { logged = m.logged; variables = m.variables; proof = proof }

  represents : now ≡ x.schedule.steps → AreBounded q.tables → (proof : Option OpenProof) → GoesOnWriting s.proof proof →
      ProofFits q.proof.opened m.variables m.logged proof → Represents (summary_of q started now x) (after proof)
  represents steps bounded proof grows goes = record {
    ledger = ledger-is _ _ _ _ _ _ _ (ap (λ (l : Ledger). l.valid) k.ledger) (ap (λ (l : Ledger). l.started) k.ledger)
        (ap (λ (l : Ledger). l.steps) k.ledger) (none-since now x.schedule.steps steps) (ap (λ (l : Ledger). l.settings) k.ledger)
        (ap (λ (l : Ledger). l.checking) k.ledger ∙ sym (checked-runs o.proof.checker q.proof.checker _ m.more.proof.logged.checked));
    fits = λ _. let (w, left) = m.fits in
        (w, proof-free w _ (with_variables m.variables (with_entries m.logged (with_changed mode u s))) proof left);
    words = k.words;
    same = goes.same;
    written = λ _. goes.written;
    bounded = λ _. bounded;
    flags = λ _. let f = k.flags in
        record {
          clauses = f.clauses;
          assumptions = f.assumptions;
          counted = f.counted;
          unlisted = λ e. lists-on s.logged m.logged m.more.more (lists-derived m.more.more.entries (leaving-derived m.more.more.entries m.more.leaving))
              ∙ f.unlisted e;
          unassumed = λ h. f.unassumed (barred-before s.proof proof grows h);
        };
  }

  changed-call : (y : Context A) → CountsAnew x y now → AreBounded q.tables → u < variable_limit → (IsAssumed s u → ⊥) →
      (t : State) × ChangesMode mode s u (Ok tt) t × Represents (summary_of q started now y) t
  changed-call y counted bounded room unassumed =
      let (before, links) = k.fits in
      let alike = written-alike before _ s links m.variables m.keep in
      let (proof, grows, goes) = proof-goes-on o.proof q.proof s.variables m.variables s.logged m.logged s.proof k.proof alike m.more.proof in (
        after proof,
        m.leads proof (lines-of-entries s.variables m.variables s.logged alike) grows k.valid room unassumed,
        represents-same q started now x y (after proof) counted.same (represents counted.steps bounded proof grows goes),
      )

pub returns : goal.returns
returns g c s st =
    let (is, counted) = c.in_ok-end_change.ensures in
    let k = begins (rw (← c.self.view_is) at st) (ap not c.in_ok-ensure_valid.ensures) in
    let old = c.self.inside in
    let o = tracer_state old.tracer in
    let q = tracer_state c.change_mode-changed.new.tracer in
    let changes = rw is at c.change_mode-changed.ensures.changes in
    let may = c.in_ok-check_change.ensures in
    changed-call o q old.started old.changed_at c.end_change.new.changed_at old.ctx s c.args.var c.args.mode k
    (mode-changed (summary_of o old.started old.changed_at old.ctx) s c.args.var old.tracer.proof q refl k.fits c.args.mode changes)
    c.end_change.new.ctx counted
    (kept-after old.ctx old.tracer.tables q.tables (c.self.invariant c.in_ok-ensure_valid.ensures).kept
    (changed-stays c.args.var c.args.mode old.ctx.solver_state.sat_state o q changes)).bounded
    may.in_range (unassumed-state c.args.var k may.unassumed)

pub returns-in_err-end_change : goal.returns-in_err-end_change
returns-in_err-end_change g c s st =
    let (error, is, logged, made, count) = c.in_err-end_change.ensures in
    let q = rw (← c.self.view_is) at st in
    let k = begins q (ap not c.in_ok-ensure_valid.ensures) in
    let old = c.self.inside in
    let new = c.change_mode-changed.new.tracer in
    let may = c.in_ok-check_change.ensures in
    let proof = rw is at c.change_mode-changed.ensures.proof in
    let words = length old.ctx.clause_alloc.words in
    let refused = logged-error c.from_residual-in_err-end_change.result c.in_err-end_change.field-0.0 c.from_residual-in_err-end_change.ensures ∙ ap Err logged in (
      broken s.proof words s,
      subst (λ r. ChangesMode c.args.mode s c.args.var r (broken s.proof words s)) (sym refused)
          (mode-broken c.args.mode (broken s.proof words s) c.args.var k may.in_range (unassumed-state c.args.var k may.unassumed)
          (rw is at c.change_mode-changed.ensures.free) (broken-unlogged s words k.valid)),
      represents-broken (tracer_state old.tracer) (tracer_state new) old.started old.changed_at c.end_change.new.changed_at old.ctx old.ctx
          c.end_change.new.ctx s s.proof q made count refl refl (ap (λ (p : ProofParts). is_there p.checker) proof)
          (ap (λ (p : ProofParts). p.opened) proof ∙ k.proof.same),
    )

pub returns-in_err-ensure_valid : goal.returns-in_err-ensure_valid
returns-in_err-ensure_valid g c s st =
    let q = rw (← c.self.view_is) at st in
    let refused = invalid-logged c.from_residual.result c.in_err-ensure_valid.field-0.0 c.from_residual.ensures c.in_err-ensure_valid.ensures.0 in (
      s,
      subst (λ r. ChangesMode c.args.mode s c.args.var r s) (sym refused) (mode-invalid c.args.mode s c.args.var
          (represents-invalid _ s q (ap not c.in_err-ensure_valid.ensures.1))),
      st,
    )
