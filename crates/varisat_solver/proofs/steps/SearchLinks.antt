-- What a proof can see of a well-formed view.
use Rattle.std.proofs.Common.{◌≡◌, ◌≢◌, ℕ, false, Option, Some, List, [], ◌∷◌, ◌++◌, ◌⊎◌, inl, inr, ⊎_elim, sym, ap, ◌∙◌, subst, refl, ◌≤◌, length, zero, suc, ◌<◌, Bool, None, get_or, arith}
use Rattle.varisat_theory.specs.promises.Membership.{◌∈◌, ◌⊆◌, IsDistinct}
use Rattle.varisat_theory.specs.promises.Literals.{Literal, Clause, Assignment, variable_of, opposite, IsSatisfiable}
use Rattle.varisat_theory.specs.promises.Derivations.{Line, SpeakOf}
use Rattle.varisat_theory.specs.promises.Counted.{DerivesBy}
use Rattle.varisat_theory.specs.promises.Journals.{GoesOn}
use Rattle.varisat_theory.specs.promises.Searches.{Search, KeptClause, IsDischarged, Covers, CoversBy, IsLiteralOf}
use Rattle.varisat_theory.specs.inside.Outcomes.{SearchOutcome, Holds, Answers}
use Rattle.varisat_theory.proofs.clauses.Sound.{conflicts_sound, derives_sound}
use Rattle.varisat_theory.proofs.journals.StepCounts.{by_derives}
use Rattle.varisat_theory.proofs.journals.StepCovers.{still_covered}
use Rattle.varisat_theory.proofs.journals.Spoken.{spoken_wider}
use Rattle.varisat_solver.specs.promises.Names.{identity_of}
use Rattle.varisat_tracer.specs.promises.Carried.{carry}
use Rattle.varisat_solver.specs.inside.Carried.{AgreesAlong, is_forced}
use Rattle.varisat_solver.specs.inside.Spaces.{Translation, SearchHolds, Spaces, Carrying, translation, CheckerFits, SolversFit, IsRetired, IsWholeLog, AssumptionsFit, IsolationFits, MarksFit, WorkingFits, CoreFits, VerdictFits, without_core, Links}
use Rattle.varisat_solver.proofs.calls.SpacesAgree.{AreLong, identities-same, modes-same, units-same}
use Rattle.varisat_tracer.specs.inside.RenamedEntries.{carry-opposites}
use Rattle.varisat_solver.proofs.entries.ReachedHeld.{lines_logged, with_logged, IsInUse, lines-lead, shares-after}
use Rattle.varisat_names.specs.declared.variables.data.VarData.{VarData}
use Rattle.varisat_solver.specs.promises.States.{State, HasRightVerdict, IsWellFormed}
use Rattle.varisat_solver.proofs.calls.CallStates.{logged_as, logged-well}
use Rattle.varisat_literals.specs.promises.Numbers.{polarity_of}
use Rattle.varisat_theory.proofs.steps.SearchFits.{clause_in}
use Rattle.varisat_prop.specs.View.{View, kept, WellFormed}
use Rattle.varisat_search.specs.Seen.{search_of}
use Rattle.varisat_search.proofs.stepping.ViewSearch.{fixed_from, seen_clauses}
use Rattle.varisat_theory.specs.inside.Outcomes as outcome
use Rattle.varisat_theory.proofs.clauses.ConflictForms.{never_its_own}

-- A search that goes on.

-- a literal that is covered alone is fixed
pub fixed-alone : (t : Search) (l : Literal) → AreLong t → IsDischarged t (l ∷ [])
    ⊎ ((k : KeptClause) × (k ∈ t.kept) × (k.learned ≡ false) × (k.clause ⊆ (l ∷ []))) → l ∈ t.fixed
fixed-alone t l long h =
    ⊎_elim
    (λ a. ⊎_elim
    (λ (m, i, j). absurd (never_its_own m (only (opposite m) j ∙ sym (only m i))))
    (λ (m, i, j). subst (λ x. x ∈ t.fixed) (only m i) j)
    a)
    (λ (k, i, e, w). let (x, y, a, b, n) = long k i in absurd (n (only x (w x a) ∙ sym (only y (w y b)))))
    h
  where
    only : (m : Literal) → m ∈ (l ∷ []) → m ≡ l
    only m (inl e) = e
    only m (inr z) = absurd z

pub answers-covers : (P : List Clause) (t : Search) (v : SearchOutcome) → v ≢ outcome.Unsat → Answers P t v → Covers P t
answers-covers P t outcome.Unknown n a = a
answers-covers P t (outcome.Sat found) n a = a.0
answers-covers P t outcome.Unsat n a = absurd (n refl)
answers-covers P t (outcome.UnsatUnder core) n a = a

-- what a search with a known verdict reads
pub agrees-through : (f : ℕ → Option ℕ) (a : Assignment) → AgreesAlong f a (λ v. a (identity_of (f v)))
agrees-through f a v i e = ap (λ o. a (identity_of o)) e

module _ (P : List Clause) (r : Translation) (s t : Search) (v : SearchOutcome) (h : SearchHolds P r s outcome.Unknown) (long : AreLong t)
    (covers : v ≢ outcome.Unsat → (Q : List Clause) → Covers Q s → Covers Q t) where
  pub fixed-on : v ≢ outcome.Unsat → (l : Literal) → l ∈ s.fixed → l ∈ t.fixed
  fixed-on n l i = fixed-alone t l long
      (covers n ((l ∷ []) ∷ []) (λ c. elim [ inl e ↦ inl (inr (l, subst (λ x. l ∈ x) (sym e) (inl refl), i)) | inr z ↦ absurd z ]) (l ∷ []) (inl refl))

  pub covered-on : v ≢ outcome.Unsat → CoversBy (carry r.identity) (is_forced r.forced) P t
  covered-on n c i =
      still_covered t (carry r.identity) (is_forced r.forced) (carry-opposites r.identity) s
      (λ d g. covers n (d ∷ []) (λ x. elim [
        | inl e ↦ subst (λ y. IsDischarged s y ⊎ ((k : KeptClause) × (k ∈ s.kept) × (k.learned ≡ false) × (k.clause ⊆ y)))
            (sym e) g
        | inr z ↦ absurd z
      ]) d (inl refl))
      c (h.covered (λ e. let q : outcome.Unknown ≡ outcome.Unsat = e in cc) c i)

  -- the clauses that a proof holds after some lines, which it logged
  pub held-on : (n : ℕ) (lines : List Line) (after : List Clause) → DerivesBy n h.held lines after → Holds after t v →
      SpeakOf (IsLiteralOf s) lines → ((core : List Literal) → v ≡ outcome.UnsatUnder core → ⊥) →
      ((l : Literal) → IsLiteralOf t l → (i : ℕ) × (r.identity (variable_of l) ≡ Some i)) → SearchHolds P (with_logged (r.logged ++ lines_logged r lines) r) t v
  held-on n lines after d holds speaks plain within =
      record {
        held = after;
        holds = holds;
        within = within;
        implied = λ a b m g. derives_sound h.held lines after b (by_derives n h.held lines after d) (h.implied a b m g);
        known = h.known;
        fixed = λ n l i e f. fixed-on n l (h.fixed (λ e. let q : outcome.Unknown ≡ outcome.Unsat = e in cc) l i e f);
        covered = covered-on;
        logged = shares-after r h.held n lines after h.logged d t v fixed-on (spoken_wider (IsLiteralOf s) (IsInUse r) lines h.within speaks) plain holds;
      }

  pub held-goes : (n : ℕ) (lines : List Line) (after : List Clause) → DerivesBy n h.held lines after → GoesOn n r.logged (lines_logged r lines)
  held-goes n lines after d = (lines-lead n r h.held lines after h.logged d).goes

-- A model that was found says nothing of what is held.
pub without-model : (P : List Clause) (r : Translation) (t : Search) (found : Assignment) → SearchHolds P r t (outcome.Sat found) →
    SearchHolds P r t outcome.Unknown
without-model P r t found h =
    let o : outcome.Sat found ≢ outcome.Unsat = (λ q. let z : outcome.Sat found ≡ outcome.Unsat = q in cc) in
    record {
      held = h.held;
      holds = h.holds;
      within = h.within;
      implied = h.implied;
      known = h.known;
      fixed = λ _. h.fixed o;
      covered =
          λ _. h.covered o;
      logged = h.logged;
    }

pub with-model : (P : List Clause) (r : Translation) (t : Search) (found : Assignment) → SearchHolds P r t outcome.Unknown →
    SearchHolds P r t (outcome.Sat found)
with-model P r t found h =
    let o : outcome.Unknown ≢ outcome.Unsat = (λ q. let z : outcome.Unknown ≡ outcome.Unsat = q in cc) in
    record {
      held = h.held;
      holds = h.holds;
      within = h.within;
      implied = h.implied;
      known = h.known;
      fixed = λ _. h.fixed o;
      covered =
          λ _. h.covered o;
      logged = h.logged;
    }

-- under Unsat no assignment satisfies the accepted clauses
pub refuted : (P : List Clause) (r : Translation) (t : Search) → SearchHolds P r t outcome.Unsat → IsSatisfiable P → ⊥
refuted P r t h (a, m) = conflicts_sound h.held [] (λ v. a (identity_of (r.identity v)))
    (h.implied a (λ v. a (identity_of (r.identity v))) m (agrees-through r.identity a)) (λ l i. absurd i) h.holds

-- The search goes on, and the verdict of the state with it: what was said of the names stays.

-- the spaces, with the solver variables, the search and the checker of others
abbrev pub with_search_side : Spaces → Spaces → Spaces
with_search_side q p = record p {
  solver_from_global = q.solver_from_global;
  global_from_solver = q.global_from_solver;
  working = q.working;
  core = q.core;
  model = q.model;
  search = q.search;
  outcome = q.outcome;
  var_count = q.var_count;
  checker = q.checker;
}

-- What links the search to the state.
pub record SearchLinks (w : Carrying) (p : Spaces) (s : State) : Type 0 where
  pub solvers : SolversFit w.identity p.solver_from_global p.global_from_solver s.counted
  pub holds : SearchHolds s.clauses (translation w p s.logged) p.search (without_core p.outcome)
  pub assumptions : AssumptionsFit p.global_from_user p.solver_from_global s.naming.names p.assumptions s.assumptions
  pub working : WorkingFits s.clauses (translation w p s.logged).identity s.assumptions p.working
  pub verdict : VerdictFits w.identity p.model p.outcome s.verdict
  pub core : CoreFits s.naming.names p.core s.verdict
  pub right : HasRightVerdict s
  pub few : p.var_count ≤ length s.counted
  pub logged : IsWholeLog s.logged s.clauses s.assumptions s.counted s.ever_hidden (IsRetired w s)
  pub checked : CheckerFits w.global s.logged p.checker

pub relinked : (w : Carrying) (p q : Spaces) (s t : State) → Links w p s → SearchLinks w (with_search_side q p) (logged_as t s) →
    Links w (with_search_side q p) (logged_as t s)
relinked w p q s t k l = record {
  identities = k.identities;
  names = k.names;
  modes = k.modes;
  watermark = k.watermark;
  globals = k.globals;
  units = k.units;
  isolation = k.isolation;
  solvers = l.solvers;
  holds = l.holds;
  assumptions = l.assumptions;
  marks = k.marks;
  working = l.working;
  verdict = l.verdict;
  core = l.core;
  right = l.right;
  well_formed = logged-well s t k.well_formed;
  few = l.few;
  shown = k.shown;
  plain = k.plain;
  variables = k.variables;
  numbered = k.numbered;
  logged = l.logged;
  checked = l.checked;
}

-- Of what is kept of global variables nothing changed but whether they are isolated and whether they are assumed.
pub record AreRemarked (kept after : ℕ → VarData) : Type 0 where
  pub deleted : (x : ℕ) → (after x).deleted ≡ (kept x).deleted
  pub sampling_mode : (x : ℕ) → (after x).sampling_mode ≡ (kept x).sampling_mode
  pub unit : (x : ℕ) → (after x).unit ≡ (kept x).unit

-- the spaces, with the marks and the assumptions of others as well
abbrev pub with_marks : Spaces → Spaces → Spaces
with_marks q p = record (with_search_side q p) { kept = q.kept; assumptions = q.assumptions }

-- the state, with the clauses, the assumptions, the verdict and what was logged of another
abbrev pub asked_as : State → State → State
asked_as t s = record s { clauses = t.clauses; assumptions = t.assumptions; verdict = t.verdict; logged = t.logged }

-- Marks changed too, and what the state was asked: what was said of the names and the units stays.
pub relinked-marks : (w : Carrying) (p q : Spaces) (s t : State) → Links w p s → AreRemarked p.kept q.kept →
    IsolationFits w.identity w.forced q.kept t.clauses s.naming.made → MarksFit p.global_from_user q.kept q.assumptions →
    IsWellFormed (asked_as t s) → SearchLinks w (with_marks q p) (asked_as t s) → Links w (with_marks q p) (asked_as t s)
relinked-marks w p q s t k a isolation marks well l = record {
  identities = identities-same w.identity w.global p.kept q.kept s.naming.made a.deleted k.identities;
  names = k.names;
  modes = modes-same w.identity p.global_from_user p.user_from_global p.global_from_user p.user_from_global p.kept q.kept s.naming.modes (λ u. refl)
      (λ x. refl) a.sampling_mode k.modes;
  watermark = k.watermark;
  globals = k.globals;
  units = units-same w.identity w.forced p.kept q.kept s.counted a.unit k.units;
  isolation = isolation;
  solvers = l.solvers;
  holds = l.holds;
  assumptions = l.assumptions;
  marks = marks;
  working = l.working;
  verdict = l.verdict;
  core = l.core;
  right = l.right;
  well_formed = well;
  few = l.few;
  shown = λ o y h. a.deleted y ∙ k.shown o y h;
  plain = k.plain;
  variables = k.variables;
  numbered = k.numbered;
  logged = l.logged;
  checked = l.checked;
}

pub of-kept : (s : View) (k : KeptClause) → k ∈ (search_of s).kept → k.clause ∈ kept s
of-kept s k h = subst (λ P. k.clause ∈ P) (seen_clauses s) (clause_in (search_of s).kept k h)

two : (c : Clause) → 2 ≤ length c → IsDistinct c → (l m : Literal) × (l ∈ c) × (m ∈ c) × (l ≢ m)
two [] n d = absurd (omega arith)
two (x ∷ []) n d = absurd (omega arith)
two (x ∷ y ∷ c) n d = (x, y, inl refl, inr (inl refl), λ e. d.0 (inl e))

pub view-long : (s : View) → WellFormed s → AreLong (search_of s)
view-long s w k h = let i = of-kept s k h in two k.clause (w.several k.clause i) (w.distinct k.clause i)

value-inside : (xs : List (Option Bool)) (i : ℕ) (b : Bool) → get_or xs i None ≡ Some b → i < length xs
value-inside [] i b e = absurd cc
value-inside (x ∷ xs) zero b e = omega arith
value-inside (x ∷ xs) (suc i) b e = let h = value-inside xs i b e in omega (arith, h)

pub view-inside : (s : View) (l : Literal) → WellFormed s → IsLiteralOf (search_of s) l → variable_of l < length s.values
view-inside s l w h =
    ⊎_elim
    (λ i. value-inside s.values (variable_of l) (polarity_of l) (fixed_from s w l i).0)
    (λ (k, i, j). w.in_range k.clause (of-kept s k i) l j)
    h
