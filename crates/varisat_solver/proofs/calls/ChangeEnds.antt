-- What a solver keeps and represents once a change ended.
use Rattle.std.proofs.Common.{◌≡◌, ◌∙◌, ◌-◌, ℕ, Bool, true, false, not, Option, length, Result, Err, IsErr, IsErrAnd, refl, sym, ap, subst}
use Rattle.varisat_names.specs.promises.Variables.{Tables}
use Rattle.varisat_proof.specs.promises.Proving.{ProofParts, is_there}
use Rattle.varisat_search.specs.declared.context.Context.{Context}
use Rattle.varisat_tracer.specs.inside.Tracing.{TracerState, CanLog}
use Rattle.varisat_solver.specs.promises.Calls.{is_valid}
use Rattle.varisat_solver.specs.inside.Changes.{invalidated, CountsAnew}
use Rattle.varisat_solver.specs.inside.Accepting.{AreBounded}
use Rattle.varisat_solver.specs.promises.OpenProofs.{OpenProof, ProofFits, opened_state}
use Rattle.varisat_solver.specs.inside.Spaces.{SpacesFit}
use Rattle.varisat_solver.specs.promises.States.{State, Ledger, FlagsFit}
use Rattle.varisat_solver.specs.promises.Summaries.{Summary}
use Rattle.varisat_solver.specs.inside.Representations.{IsValidSolver, IsValidSince, Represents, RepresentsSome, spaces_with}
use Rattle.varisat_solver.specs.declared.solver.SolverError.{SolverError}
use Rattle.varisat_solver.specs.declared.solver.SolverError.TheVariants.{Invalid}
use Rattle.varisat_solver.proofs.accepting.Additions.{logged-error}
use Rattle.varisat_solver.proofs.calls.CallStates.{ledger-is, none-since, broken}
use Rattle.varisat_solver.proofs.calls.SettingsCalls.{summary_of, represents-same}
use Rattle.varisat_solver.proofs.steps.SinceSteps.{since-now}

-- 1. The change came to a value.

pub kept-changed : {A : Type 0} (tables : Tables) (proof : ProofParts) (x y : Context A) (started : Bool) (changed_at : ℕ) → CountsAnew x y changed_at →
    IsValidSolver tables x → CanLog proof → RepresentsSome (spaces_with tables proof.checker x) started → IsValidSince tables proof y started changed_at
kept-changed {A} tables proof x y started changed_at c k t s =
    subst (λ (z : Context A). IsValidSince tables proof z started changed_at) (sym c.same)
    (record { kept = k; logs = t; counts = since-now changed_at x c.steps k.ready c.plan; represents = s })

-- It represents the state that the change comes to, where steps are counted anew.
pub represents-changed : {A : Type 0} (p q : TracerState) (started : Bool) (before changed_at : ℕ) (x y z : Context A) (s t : State) →
    Represents (summary_of p started before x) s → CountsAnew y z changed_at → y.solver_state.state_is_invalid ≡ x.solver_state.state_is_invalid →
    y.schedule.steps ≡ x.schedule.steps → y.solver_config ≡ x.solver_config → is_there q.proof.checker ≡ is_there p.proof.checker →
    t.ledger ≡ record s.ledger { started = true; since = 0 } → t.words ≡ length y.clause_alloc.words →
    SpacesFit (spaces_with q.tables q.proof.checker y) t → ProofFits q.proof.opened t.variables t.logged t.proof → FlagsFit t →
    AreBounded q.tables → Represents (summary_of q true changed_at z) t
represents-changed {A} p q started before changed_at x y z s t st counted valid steps config checking ledger size fits proof flags bounded =
    represents-same q true changed_at y z t counted.same (record {
      ledger = ledger
          ∙ ledger-is _ _ _ _ _ _ _ (ap (λ (l : Ledger). l.valid) st.ledger ∙ ap not (sym valid)) refl (ap (λ (l : Ledger). l.steps) st.ledger ∙ sym steps)
          (none-since changed_at y.schedule.steps counted.steps) (ap (λ (l : Ledger). l.settings) st.ledger ∙ sym config)
          (ap (λ (l : Ledger). l.checking) st.ledger ∙ sym checking);
      words = size;
      same = proof.same;
      fits = λ _. fits;
      written = λ _. proof.written;
      flags = λ _. flags;
      bounded = λ _. bounded;
    })

-- 2. It failed.

-- an invalid solver keeps nothing
pub not-valid : {A : Type 0} (x y : Context A) → y ≡ invalidated x → y.solver_state.state_is_invalid ≡ false → ⊥
not-valid {A} x y e f = let z : true ≡ false = sym (ap (λ (c : Context A). c.solver_state.state_is_invalid) e) ∙ f in cc

-- It represents the state made invalid, with the proof and the words of the clause store as they are then. No step was made.
pub represents-broken : {A : Type 0} (p q : TracerState) (started : Bool) (before changed_at : ℕ) (x y z : Context A) (s : State) (proof : Option OpenProof) →
    Represents (summary_of p started before x) s → z ≡ invalidated y → changed_at ≡ before → y.schedule.steps ≡ x.schedule.steps →
    y.solver_config ≡ x.solver_config → is_there q.proof.checker ≡ is_there p.proof.checker → q.proof.opened ≡ opened_state proof →
    Represents (summary_of q started changed_at z) (broken proof (length y.clause_alloc.words) s)
represents-broken {A} p q started before changed_at x y z s proof st e n steps config checking same =
    subst (λ (c : Context A). Represents (summary_of q started changed_at c) (broken proof (length y.clause_alloc.words) s)) (sym e)
    (subst (λ k. Represents (summary_of q started k (invalidated y)) (broken proof (length y.clause_alloc.words) s)) (sym n) (record {
      ledger = ledger-is _ _ _ _ _ _ _ refl (ap (λ (l : Ledger). l.started) st.ledger) (ap (λ (l : Ledger). l.steps) st.ledger ∙ sym steps)
          (ap (λ (l : Ledger). l.since) st.ledger ∙ ap (λ k. k - before) (sym steps)) (ap (λ (l : Ledger). l.settings) st.ledger ∙ sym config)
          (ap (λ (l : Ledger). l.checking) st.ledger ∙ sym checking);
      words = refl;
      same = same;
      fits = λ v. absurd cc;
      written = λ v. absurd cc;
      flags = λ v. absurd cc;
      bounded = λ v. absurd cc;
    }))

-- 3. A call is refused in an invalid solver.

pub represents-invalid : (g : Summary) (s : State) → Represents g s → g.ledger.valid ≡ false → is_valid s ≡ false
represents-invalid g s st f = ap (λ (l : Ledger). l.valid) st.ledger ∙ f

pub invalid-logged : {X : Type 0} (r : Result X SolverError) (e : SolverError) → IsErr r × IsErrAnd r (λ x. x ≡ e) → e ≡ Invalid → r ≡ Err Invalid
invalid-logged r e h i = logged-error r e h ∙ ap Err i
