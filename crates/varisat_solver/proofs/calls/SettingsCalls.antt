-- A checker begins to run inside the solver, where nothing was accepted, or the one that runs goes on.
use Rattle.std.proofs.Common.{◌≡◌, ◌∙◌, ◌-◌, ℕ, Bool, true, Option, Some, None, [], Result, Ok, Err, MatchResult, not, length, sym, ap, subst, false, ◌⊎◌, inl, inr, refl}
use Rattle.std.specs.Option.{unwrap_or, IsSome, is_some}
use Rattle.varisat_theory.specs.promises.Membership.{◌∈◌}
use Rattle.varisat_names.specs.promises.Settings.{no_update, first_bad, updated_settings}
use Rattle.varisat_names.specs.declared.config.ConfigError.{ConfigError}
use Rattle.varisat_names.specs.promises.Variables.{Tables}
use Rattle.varisat_tracer.specs.inside.Tracing.{TracerState, CanLog}
use Rattle.varisat_names.specs.declared.config.SolverConfigUpdate.{SolverConfigUpdate}
use Rattle.varisat_search.specs.declared.context.Context.{Context}
use Rattle.varisat_clause.specs.ClauseActivities.{ActivityScale}
use Rattle.varisat_vsids.specs.Activities.{Activities}
use Rattle.varisat_search.specs.AssumptionParts.{AssumptionParts}
use Rattle.varisat_search.specs.Contexts.{view, IsReady}
use Rattle.varisat_search.specs.Decisions.{SameDecidable}
use Rattle.varisat_solver.specs.promises.States.{State, Ledger}
use Rattle.varisat_solver.specs.inside.SinceChange.{CountsSince}
use Rattle.varisat_solver.specs.inside.Spaces.{SpacesFit, Links}
use Rattle.varisat_solver.specs.promises.Calls.{with_update, with_max_steps, count_anew}
use Rattle.varisat_solver.specs.promises.Summaries.{Summary}
use Rattle.varisat_solver.specs.inside.Representations.{IsValidSolver, Represents, spaces_of, spaces_with, RepresentsSome}
use Rattle.varisat_proof.specs.promises.Calls.{CheckerState}
use Rattle.varisat_proof.specs.promises.Proving.{ProofParts, is_there}
use Rattle.varisat_solver.specs.promises.OpenProofs.{OpenProof, opened_state, BarsAssumptions, IsWrittenWhereOpen}
use Rattle.varisat_solver.specs.promises.ProofCalls.{with_proof}
use Rattle.varisat_solver.proofs.accepting.AcceptClause.{ledger-free, proof-free}
use Rattle.varisat_solver.proofs.calls.CallStates.{ledger_of, none-since}
use Rattle.varisat_solver.proofs.modes.VariableMoves.{same-in-use}
use Rattle.varisat_solver.proofs.entries.LoggedJournals.{checking-begins}

-- A solver whose settings changed.

-- what a solver holds, where no proof is open and no words are counted
abbrev pub summary_in : {A : Type 0} → Tables → Option CheckerState → Context A → Ledger → Summary
summary_in tables checker x ledger = record {
  tables = tables;
  opened = None;
  checker = checker;
  search = view x;
  assumed = x.assumptions;
  sat_state = x.solver_state.sat_state;
  words = 0;
  ledger = ledger;
}

-- what a solver with the parts holds
abbrev pub summary_of : {A : Type 0} → TracerState → Bool → ℕ → Context A → Summary
summary_of parts started changed_at x =
    record {
      tables = parts.tables;
      opened = parts.proof.opened;
      checker = parts.proof.checker;
      search = view x;
      assumed =
          x.assumptions;
      sat_state = x.solver_state.sat_state;
      words = length x.clause_alloc.words;
      ledger =
          ledger_of (not x.solver_state.state_is_invalid) started x.schedule.steps (x.schedule.steps - changed_at) x.solver_config
          (is_there parts.proof.checker);
    }

pub represents-updated : {A : Type 0} (parts : TracerState) (started : Bool) (changed_at anew : ℕ) (x y : Context A) (u : SolverConfigUpdate)
    (b : ActivityScale) (a : Activities) (s : State) → y ≡ record x
    { clause_activity = b; solver_config = updated_settings x.solver_config u; vsids = a } → anew ≡ y.schedule.steps →
    Represents (summary_of parts started changed_at x) s → Represents (summary_of parts started anew y) (with_update u s)
represents-updated {A = A} parts started changed_at anew x y u b a s e n st =
    let same : anew ≡ x.schedule.steps = n ∙ ap (λ (z : Context A). z.schedule.steps) e in
    subst (λ (z : Context A). Represents (summary_of parts started anew z) (with_update u s)) (sym e) (record {
      ledger = ap (λ (l : Ledger). record l { since = 0; settings = updated_settings l.settings u }) st.ledger
          ∙ ap (λ k. ledger_of (not x.solver_state.state_is_invalid) started x.schedule.steps k (updated_settings x.solver_config u)
          (is_there parts.proof.checker))
          (none-since anew x.schedule.steps same);
      fits = λ v. let (w, k) = st.fits v in (
        w,
        ledger-free w (spaces_of parts.tables parts.proof.checker (view x) x.assumptions x.solver_state.sat_state) s
            (record s.ledger { since = 0; settings = updated_settings s.ledger.settings u }) k,
      );
      words = st.words;
      bounded = st.bounded;
      same = st.same;
      written = st.written;
      flags = λ v. let f = st.flags v in
          record { clauses = f.clauses; assumptions = f.assumptions; counted = f.counted; unlisted = f.unlisted; unassumed = f.unassumed };
    })

pub represents-same : {A : Type 0} (parts : TracerState) (started : Bool) (changed_at : ℕ) (x y : Context A) (s : State) → y ≡ x →
    Represents (summary_of parts started changed_at x) s → Represents (summary_of parts started changed_at y) s
represents-same {A = A} parts started changed_at x y s e st = subst (λ (z : Context A). Represents (summary_of parts started changed_at z) s) (sym e) st

-- Other settings, where the limit of steps alone is another one. What decays is as before.
abbrev pub IsLimited : {A : Type 0} → ℕ → Context A → Context A → Type 0
IsLimited n x y =
    (b : ActivityScale) × (a : Activities)
    × (y ≡ record x { clause_activity = b; solver_config = record x.solver_config { max_steps = n }; vsids = a })

pub limits-steps : {A : Type 0} (n : ℕ) (x y : Context A) (u : SolverConfigUpdate) (r : Result (Unit {0}) ConfigError) → u ≡ no_update →
    MatchResult r
    (λ _. (first_bad (record u { max_steps = Some n }) ≡ None) × (y ≡ record x {
      clause_activity = record x.clause_activity { decay = unwrap_or u.clause_activity_decay x.clause_activity.decay };
      solver_config = updated_settings x.solver_config (record u { max_steps = Some n });
      vsids = record x.vsids { decay = unwrap_or u.vsids_decay x.vsids.decay };
    }))
    (λ error. (first_bad (record u { max_steps = Some n }) ≡ Some error.field) × (y ≡ x)) → IsLimited n x y
limits-steps {A} n x y u r e h =
    go r
    (subst
    (λ (w : SolverConfigUpdate). MatchResult r
    (λ _. (first_bad (record w { max_steps = Some n }) ≡ None) × (y ≡ record x {
      clause_activity = record x.clause_activity { decay = unwrap_or w.clause_activity_decay x.clause_activity.decay };
      solver_config = updated_settings x.solver_config (record w { max_steps = Some n });
      vsids = record x.vsids { decay = unwrap_or w.vsids_decay x.vsids.decay };
    }))
    (λ error. (first_bad (record w { max_steps = Some n }) ≡ Some error.field) × (y ≡ x))) e h)
  where
    go : (r : Result (Unit {0}) ConfigError) → MatchResult r
        (λ _. (first_bad (record no_update { max_steps = Some n }) ≡ None) × (y ≡ record x { solver_config = record x.solver_config { max_steps = n } }))
        (λ error. (first_bad (record no_update { max_steps = Some n }) ≡ Some error.field) × (y ≡ x)) → IsLimited n x y
    go (Ok u) (z, k) = (x.clause_activity, x.vsids, k)
    go (Err error) (z, k) = absurd (let f : None ≡ Some error.field = z in cc)

-- the same solver, in which a call may make so many steps
pub represents-limited : {A : Type 0} (parts : TracerState) (started : Bool) (changed_at n : ℕ) (x y : Context A) (b : ActivityScale) (a : Activities)
    (s : State) → y ≡ record x { clause_activity = b; solver_config = record x.solver_config { max_steps = n }; vsids = a } →
    Represents (summary_of parts started changed_at x) s → Represents (summary_of parts started changed_at y) (with_max_steps n s)
represents-limited {A = A} parts started changed_at n x y b a s e st =
    subst (λ (z : Context A). Represents (summary_of parts started changed_at z) (with_max_steps n s)) (sym e) (record {
      ledger = ap (λ (l : Ledger). record l { settings = record l.settings { max_steps = n } }) st.ledger;
      fits = λ v. let (w, k) = st.fits v in (
        w,
        ledger-free w (spaces_of parts.tables parts.proof.checker (view x) x.assumptions x.solver_state.sat_state) s
            (record s.ledger { settings = record s.ledger.settings { max_steps = n } }) k,
      );
      words = st.words;
      bounded = st.bounded;
      same = st.same;
      written = st.written;
      flags = λ v. let f = st.flags v in
          record { clauses = f.clauses; assumptions = f.assumptions; counted = f.counted; unlisted = f.unlisted; unassumed = f.unassumed };
    })

-- and the steps since its last change are counted on
pub counts-limited : {A : Type 0} (changed_at n : ℕ) (x y : Context A) (b : ActivityScale) (a : Activities) →
    y ≡ record x { clause_activity = b; solver_config = record x.solver_config { max_steps = n }; vsids = a } →
    SameDecidable (view x) x.vsids (view y) y.vsids → CountsSince changed_at x → CountsSince changed_at y
counts-limited {A = A} changed_at n x y b a e g k =
    let h = subst (λ (z : Context A). SameDecidable (view x) x.vsids (view z) z.vsids) e g in
    subst (λ (z : Context A). CountsSince changed_at z) (sym e) (record {
      low = k.low;
      few = k.few;
      come = λ u. let (c, begins, since) = k.come u in (
        c,
        begins,
        record {
          units = since.units;
          come = since.come;
          scale = since.scale;
          variables = since.variables;
          room = λ vs d f. since.room vs d (λ v i. (h v).1 (f v i));
        },
      );
    })

-- the same solver, where steps are counted anew
pub represents-anew : {A : Type 0} (parts : TracerState) (started : Bool) (changed_at anew : ℕ) (x : Context A) (s : State) → anew ≡ x.schedule.steps →
    Represents (summary_of parts started changed_at x) s → Represents (summary_of parts started anew x) (count_anew s)
represents-anew parts started changed_at anew x s n st = record {
  ledger = ap (λ (l : Ledger). record l { since = 0 }) st.ledger
      ∙ ap (λ k. ledger_of (not x.solver_state.state_is_invalid) started x.schedule.steps k x.solver_config (is_there parts.proof.checker))
      (none-since anew x.schedule.steps n);
  fits = λ v. let (w, k) = st.fits v in
      (w, ledger-free w (spaces_of parts.tables parts.proof.checker (view x) x.assumptions x.solver_state.sat_state) s (record s.ledger { since = 0 }) k);
  words = st.words;
  bounded = st.bounded;
  same = st.same;
  written = st.written;
  flags = λ v. let f = st.flags v in
      record { clauses = f.clauses; assumptions = f.assumptions; counted = f.counted; unlisted = f.unlisted; unassumed = f.unassumed };
}

-- the same solver with another proof, or none, and the same checker
pub represents-with-proof : {A : Type 0} (tables : Tables) (p q : ProofParts) (started : Bool) (changed_at : ℕ) (x : Context A) (s : State)
    (proof : Option OpenProof) → q.checker ≡ p.checker → q.opened ≡ opened_state proof →
    (not x.solver_state.state_is_invalid ≡ true → IsWrittenWhereOpen s.variables s.logged proof) → (BarsAssumptions proof → s.assumptions ≡ []) →
    Represents (summary_of (record { tables = tables; proof = p }) started changed_at x) s →
    Represents (summary_of (record { tables = tables; proof = q }) started changed_at x) (with_proof proof s)
represents-with-proof tables p q started changed_at x s proof checker e f unassumed st = record {
  ledger = st.ledger
      ∙ ap (λ (o : Option CheckerState). ledger_of (not x.solver_state.state_is_invalid) started x.schedule.steps (x.schedule.steps - changed_at)
      x.solver_config (is_there o)) (sym checker);
  fits = λ v. let (w, k) = subst (λ o. SpacesFit (spaces_of tables o (view x) x.assumptions x.solver_state.sat_state) s) (sym checker)
      (st.fits v) in (w, proof-free w (spaces_of tables q.checker (view x) x.assumptions x.solver_state.sat_state) s proof k);
  words = st.words;
  bounded = st.bounded;
  same = e;
  written = f;
  flags = λ v. let f = st.flags v in
      record { clauses = f.clauses; assumptions = f.assumptions; counted = f.counted; unlisted = f.unlisted; unassumed = unassumed };
}

-- what a solver keeps with other settings
pub kept-updated : {A : Type 0} (tables : Tables) (x y : Context A) (u : SolverConfigUpdate) (b : ActivityScale) (a : Activities) →
    y ≡ record x { clause_activity = b; solver_config = updated_settings x.solver_config u; vsids = a } → IsReady y →
    SameDecidable (view x) x.vsids (view y) y.vsids → IsValidSolver tables x → IsValidSolver tables y
kept-updated {A} tables x y u b a e r g k =
    let same = ap (λ (z : Context A). z.assumptions) e in
    record {
      bounded = k.bounded;
      ready = r;
      count = ap (λ (z : Context A). length z.assignment.current) e ∙ k.count;
      decidable = same-in-use tables (view x) x.vsids (view y) y.vsids k.decidable g;
      assumed = λ l h. k.assumed l (subst (λ (z : AssumptionParts). l ∈ z.user) same h);
      marked = λ l v h f. k.marked l v (subst (λ (z : AssumptionParts). l ∈ z.user) same h) f;
      working = λ l h. k.working l (subst (λ (z : AssumptionParts). l ∈ z.working) same h);
    }

-- the parts with a checker that has no clauses yet, or the same parts
abbrev pub Checks : ProofParts → ProofParts → Type 0
Checks p q = (q ≡ record p { checker = Some (record { clauses = []; spent = false }) }) ⊎ (q ≡ p)

-- so it is, by whether a checker runs, and one does afterwards
pub begun-or-on : (p q : ProofParts) → (p.checker ≡ None → q ≡ record p { checker = Some (record { clauses = []; spent = false }) }) →
    (is_some p.checker ≡ true → q ≡ p) → Checks p q × IsSome q.checker
begun-or-on p q begun stays = go p.checker refl
  where
    go : (o : Option CheckerState) → p.checker ≡ o → Checks p q × IsSome q.checker
    go None e = let b = begun e in (inl b, subst (λ (r : ProofParts). IsSome r.checker) (sym b) refl)
    go (Some c) e = let b = stays (ap is_some e) in (inr b, subst (λ (r : ProofParts). IsSome r.checker) (sym b) (subst IsSome (sym e) refl))

pub some-there : {X : Type 0} (o : Option X) → IsSome o → is_there o ≡ true
some-there None h = absurd (let z : false ≡ true = h in cc)
some-there (Some x) h = refl

-- a checker runs in the state
abbrev pub with_checking : State → State
with_checking s = record s { ledger = record s.ledger { checking = true } }

-- An open proof stays, and a checker that just began can be used.
same-opened : (p q : ProofParts) → Checks p q → q.opened ≡ p.opened
same-opened p q (inl e) = ap (λ (r : ProofParts). r.opened) e
same-opened p q (inr e) = ap (λ (r : ProofParts). r.opened) e

pub logs-checking : (p q : ProofParts) → Checks p q → CanLog p → CanLog q
logs-checking p q (inl e) t = subst CanLog (sym e) (record { room = t.room; usable = refl })
logs-checking p q (inr e) t = subst CanLog (sym e) t

-- What the solver holds represents the same states.
pub spaces-checking : {A : Type 0} (tables : Tables) (p q : ProofParts) (x : Context A) (s : State) → Checks p q → s.clauses ≡ [] → s.counted ≡ [] →
    SpacesFit (spaces_with tables p.checker x) s → SpacesFit (spaces_with tables q.checker x) s
spaces-checking tables p q x s (inl e) none few (w, k) =
    (w, subst (λ (r : ProofParts). Links w (spaces_with tables r.checker x) s) (sym e) (checking-begins w (spaces_with tables p.checker x) s k none few))
spaces-checking tables p q x s (inr e) none few fit = subst (λ (r : ProofParts). SpacesFit (spaces_with tables r.checker x) s) (sym e) fit

pub some-checking : {A : Type 0} (tables : Tables) (p q : ProofParts) (x : Context A) (started : Bool) → Checks p q → started ≡ false →
    RepresentsSome (spaces_with tables p.checker x) started → RepresentsSome (spaces_with tables q.checker x) started
some-checking tables p q x started e fresh (s, fit, f) = let (none, few) = f fresh in (s, spaces-checking tables p q x s e none few fit, f)

pub represents-checking : {A : Type 0} (tables : Tables) (p q : ProofParts) (started : Bool) (changed_at : ℕ) (x : Context A) (s : State) →
    Checks p q → is_there q.checker ≡ true → s.ledger.started ≡ false → Represents (summary_of (record { tables = tables; proof = p }) started changed_at x) s →
    Represents (summary_of (record { tables = tables; proof = q }) started changed_at x) (with_checking s)
represents-checking tables p q started changed_at x s e runs fresh st = record {
  ledger = ap (λ (l : Ledger). record l { checking = true }) st.ledger
      ∙ ap (λ b. ledger_of (not x.solver_state.state_is_invalid) started x.schedule.steps (x.schedule.steps - changed_at) x.solver_config b) (sym runs);
  words = st.words;
  fits = λ v.
      let f = st.flags v in
      let (w, k) = spaces-checking tables p q x s e (f.clauses fresh) (f.counted fresh) (st.fits v) in
      (w, ledger-free w (spaces_with tables q.checker x) s (record s.ledger { checking = true }) k);
  same = same-opened p q e ∙ st.same;
  written = st.written;
  bounded = st.bounded;
  flags = λ v. let f = st.flags v in
      record { clauses = f.clauses; assumptions = f.assumptions; counted = f.counted; unlisted = f.unlisted; unassumed = f.unassumed };
}
