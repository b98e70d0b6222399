-- A search that finds a verdict, and spaces that agree.
use Rattle.std.proofs.Common.{◌≡◌, ◌≢◌, ℕ, zero, suc, ◌≤◌, ◌%◌, Bool, true, Option, Some, None, List, [], ◌∷◌, ◌++◌, inl, inr, ⊎_elim, sym, ap, ◌∙◌, subst, refl, map, append_assoc, length, arith}
use Rattle.varisat_theory.specs.promises.Membership.{◌∈◌, ◌⊆◌}
use Rattle.varisat_theory.specs.promises.Literals.{Literal, Clause, Assignment, variable_of, literal_of, value, SatisfiesAll, MakesTrue, IsSatisfiableWith, IsFailedCore}
use Rattle.varisat_theory.specs.promises.Derivations.{Line, Add, Delete, SpeakOf, IsPresentAfter}
use Rattle.varisat_theory.specs.promises.Propagation.{Conflicts}
use Rattle.varisat_theory.specs.promises.Renaming.{rename, rename_line}
use Rattle.varisat_theory.specs.promises.Journals.{Entry, Writes, Fails, Retires, Leads, written}
use Rattle.varisat_theory.specs.promises.NewClauses.{LeadsAdding}
use Rattle.varisat_theory.proofs.journals.Journals.{leads_append, leads_unique, written_stays, stays_append}
use Rattle.varisat_theory.proofs.journals.NewClauses.{adding_same, fits_more, lines_add_new}
use Rattle.varisat_theory.proofs.clauses.Lines.{derives_present}
use Rattle.varisat_search.specs.Progress.{AddOne}
use Rattle.varisat_solver.specs.promises.StepEntries.{LeadsInSteps, GoesOnInSteps, KeepsParts, GoesOnKeeping, LogsInSteps, HasStayed, SpeakOfAdded}
use Rattle.varisat_solver.proofs.entries.StepEntries.{goes-in-steps, one-line-step}
use Rattle.varisat_theory.proofs.journals.Spoken.{spoken_wider}
use Rattle.varisat_theory.proofs.clauses.Members.{∈-append_left, ∈-append_right, ∈-append_cases}
use Rattle.varisat_theory.proofs.clauses.Growth.{conflicts_more, covered_by_more}
use Rattle.varisat_theory.proofs.clauses.Held.{same_clauses-back, same_clauses_find, conflicts_same}
use Rattle.varisat_theory.specs.promises.Searches.{Search, Fits, IsLiteralOf}
use Rattle.varisat_theory.specs.inside.Outcomes.{SearchOutcome, Holds, MakesSteps}
use Rattle.varisat_theory.specs.inside.Outcomes as outcome
use Rattle.varisat_theory.proofs.journals.Renaming.{∈-map, map-∈, map-⊆, conflicts_renamed}
use Rattle.varisat_theory.proofs.clauses.Sound.{conflicts_sound, derives_sound}
use Rattle.varisat_theory.proofs.journals.StepCounts.{by_derives}
use Rattle.varisat_theory.proofs.steps.StepsMade.{names_satisfied}
use Rattle.varisat_literals.specs.promises.Numbers.{polarity_of}
use Rattle.varisat_prop.specs.Parts.{is_true_value}
use Rattle.varisat_prop.proofs.trails.LiteralValues.{polarity-literal}
use Rattle.varisat_theory.proofs.clauses.Values.{variable-opposite, variable-literal}
use Rattle.varisat_names.specs.promises.Maps.{onward, chain}
use Rattle.varisat_search.specs.AssumptionParts.{AssumptionParts, KeepsAssumptions}
use Rattle.varisat_solver.specs.promises.States.{State, Verdict, Unknown, Sat, Unsat, UnsatUnderAssumptions, IsRight}
use Rattle.varisat_solver.specs.promises.Names.{identity_of}
use Rattle.varisat_solver.specs.promises.Calls.{with_verdict}
use Rattle.varisat_tracer.specs.promises.Carried.{carry, logged_as}
use Rattle.varisat_solver.specs.inside.Carried.{is_forced, value_or}
use Rattle.varisat_solver.specs.inside.Spaces.{Spaces, Carrying, Translation, translation, CheckerFits, IsCounted, IsWholeLog, SearchHolds, AssumptionsFit, MarksFit, WorkingFits, CoreFits, without_core, VerdictFits, Links, SpacesFit, IsRetired}
use Rattle.varisat_solver.specs.promises.Journals.{with_entries, LogsMore, AreDerived, EndWithCore}
use Rattle.varisat_solver.proofs.calls.SpacesAgree.{AreLong, AreInUse, map-map, identities-same, names-same, modes-same, units-same, isolation-same, solvers-same, assumptions-same, marks-same, working-same, holds-same, logged-same, value-same}
use Rattle.varisat_solver.proofs.entries.CheckedHeld.{checker-on, logged-carried, global-carried}
use Rattle.varisat_solver.proofs.entries.LoggedProofs.{AreLoggedAs}
use Rattle.std.proofs.lemmas.List.{append-nil}
use Rattle.varisat_proof.specs.promises.Calls.{CheckerState}
use Rattle.varisat_proof.specs.promises.Proving.{IsCheckedIf}
use Rattle.varisat_tracer.specs.inside.Logged.{logged_as-append}
use Rattle.varisat_solver.proofs.accepting.AcceptSolverVariables.{one-literal}
use Rattle.varisat_solver.proofs.leaving.ForgottenCopies.{there-back, back-there, copies}
use Rattle.varisat_solver.proofs.entries.ReachedHeld.{lines_logged, IsInUse, lines-lead, logged-quiet, counted-literal, in-use-lives}
use Rattle.varisat_solver.proofs.entries.LoggedEntries.{logs-also, also-ends, written-derived, logged-written, logged-failed, spoken-renamed}
use Rattle.varisat_names.proofs.Maps.{chain-some, is-some}
use Rattle.varisat_solver.proofs.calls.Carried.{carry-at, map-empty, value-true, true-value, value-carry, forced-value}
use Rattle.varisat_tracer.specs.inside.RenamedEntries.{carry-opposites}
use Rattle.varisat_solver.proofs.steps.SearchLinks.{relinked, answers-covers, agrees-through, held-on, without-model, refuted}

-- what is logged once steps were made with the lines
abbrev pub logged-with : Carrying → Spaces → State → List Line → List Entry
logged-with w p s lines = s.logged ++ lines_logged (translation w p s.logged) lines

-- the spaces with a verdict that was found, and the checker after that
abbrev pub with_found : Search → SearchOutcome → (ℕ → Bool) → List Literal → List Literal → Option CheckerState → Spaces → Spaces
with_found t v m working core checker p = record p { search = t; outcome = v; model = m; working = working; core = core; checker = checker }

-- another verdict of the state, which is right
decided : (w : Carrying) (p : Spaces) (s : State) (logged : List Entry) → IsWholeLog logged s.clauses s.assumptions s.counted s.ever_hidden (IsRetired w s) →
    (t : Search) (v : SearchOutcome) (m : ℕ → Bool) (ws core : List Literal) (checker : Option CheckerState) (x : Verdict) → Links w p s →
    CheckerFits w.global logged checker → SearchHolds s.clauses (translation w p logged) t (without_core v) →
    WorkingFits s.clauses (translation w p s.logged).identity s.assumptions ws → VerdictFits w.identity m v x →
    CoreFits s.naming.names core x → IsRight s.clauses s.assumptions s.counted x →
    Links w (with_found t v m ws core checker p) (with_entries logged (with_verdict x s))
decided w p s logged is-logged t v m ws core checker x k checks holds working fits names right =
    relinked w p (with_found t v m ws core checker p) s (with_entries logged (with_verdict x s)) k
    (record {
      solvers = k.solvers;
      holds = holds;
      assumptions = k.assumptions;
      working = working;
      verdict = fits;
      core = names;
      right =
          right;
      few = k.few;
      logged = is-logged;
      checked = checks;
    })

-- where the verdict isn't Unsat, what was found may be forgotten
pub forgotten : (w : Carrying) (p : Spaces) (s : State) → Links w p s → s.verdict ≢ Unsat →
    Links w (with_found p.search outcome.Unknown p.model p.working p.core p.checker p) (with_verdict Unknown s)
forgotten w p s k n = decided w p s s.logged k.logged p.search outcome.Unknown p.model p.working p.core p.checker Unknown k
    k.checked (go p.outcome s.verdict k.holds k.verdict n) k.working tt tt tt
  where
    go : (v : SearchOutcome) (x : Verdict) → SearchHolds s.clauses (translation w p s.logged) p.search (without_core v) →
        VerdictFits w.identity p.model v x → x ≢ Unsat → SearchHolds s.clauses (translation w p s.logged) p.search outcome.Unknown
    go outcome.Unknown x h f n = h
    go (outcome.Sat found) x h f n = without-model s.clauses (translation w p s.logged) p.search found h
    go outcome.Unsat Unknown h f n = absurd f
    go outcome.Unsat (Sat a) h f n = absurd f
    go outcome.Unsat Unsat h f n = absurd (n refl)
    go outcome.Unsat (UnsatUnderAssumptions core) h f n = absurd f
    go (outcome.UnsatUnder core) x h f n = h

-- and where the state has a core, it may come back
pub core-known : (w : Carrying) (p : Spaces) (s : State) (found core : List Literal) → Links w p s → p.outcome ≡ outcome.Unknown →
    CoreFits s.naming.names p.core (UnsatUnderAssumptions core) → core ≢ [] → IsFailedCore s.clauses s.assumptions core →
    Links w (record p { outcome = outcome.UnsatUnder found }) (with_verdict (UnsatUnderAssumptions core) s)
core-known w p s found core k unknown logged some right =
    decided w p s s.logged k.logged p.search (outcome.UnsatUnder found) p.model p.working p.core p.checker (UnsatUnderAssumptions core) k
    k.checked
    (subst (SearchHolds s.clauses (translation w p s.logged) p.search) (ap without_core unknown) k.holds) k.working some logged right

-- without its core a verdict has none
plain-without : (v : SearchOutcome) (core : List Literal) → without_core v ≡ outcome.UnsatUnder core → ⊥
plain-without outcome.Unknown core e = let z : outcome.Unknown ≡ outcome.UnsatUnder core = e in cc
plain-without (outcome.Sat found) core e = let z : outcome.Sat found ≡ outcome.UnsatUnder core = e in cc
plain-without outcome.Unsat core e = let z : outcome.Unsat ≡ outcome.UnsatUnder core = e in cc
plain-without (outcome.UnsatUnder found) core e = let z : outcome.Unknown ≡ outcome.UnsatUnder core = e in cc

-- what is held says as much without the core
holds-without : (held : List Clause) (t : Search) (v : SearchOutcome) → Holds held t v → Holds held t (without_core v)
holds-without held t outcome.Unknown h = h
holds-without held t (outcome.Sat found) h = h
holds-without held t outcome.Unsat h = h
holds-without held t (outcome.UnsatUnder core) h = h.0

-- the literals carried to identities are true where they are
pub carried-true : (f : ℕ → Option ℕ) (a : Assignment) (ls : List Literal) → MakesTrue a (map (carry f) ls) → MakesTrue (λ v. a (identity_of (f v))) ls
carried-true f a ls t l h = sym (value-carry f a l) ∙ t (carry f l) (∈-map (carry f) l ls h)

true-carried : (f : ℕ → Option ℕ) (a : Assignment) (ls : List Literal) → MakesTrue (λ v. a (identity_of (f v))) ls → MakesTrue a (map (carry f) ls)
true-carried f a ls t l h = let (m, i, e) = map-∈ (carry f) l ls h in ap (value a) e ∙ value-carry f a m ∙ t m i

-- the assumptions that are left after steps
pub working-on : (P : List Clause) (r : Translation) (s : Search) (v : SearchOutcome) (as' : List Literal) (x y : AssumptionParts) →
    SearchHolds P r s outcome.Unknown → KeepsAssumptions s v x y → WorkingFits P r.identity as' x.working → WorkingFits P r.identity as' y.working
working-on P r s v as' x y h k f = record {
  used = λ l i. f.used l (k.part l i);
  part = λ l i. let (m, j, e) = map-∈ (carry r.identity) l y.working i in
      subst (λ z. z ∈ as') (sym e) (f.part (carry r.identity m) (∈-map (carry r.identity) m x.working (k.part m j)));
  implied = λ a m t.
      let b : Assignment = λ v. a (identity_of (r.identity v)) in
      f.implied a m (true-carried r.identity a x.working
      (k.implied h.held h.holds b (h.implied a b m (agrees-through r.identity a)) (carried-true r.identity a y.working t)));
}

-- what is forgotten stays, and of what the search holds a part is kept
kept-here : (P Q : List Clause) → KeepsParts [] P Q → (f : Literal → Literal) (F : List Clause) (c : Clause) → c ∈ (F ++ rename f P) →
    (d : Clause) × (d ∈ (F ++ rename f Q)) × (d ⊆ c)
kept-here P Q keeps f F c h =
    ⊎_elim
    (λ i. (c, ∈-append_left c F (rename f Q) i, λ l o. o))
    (λ i.
    let (x, j, e) = map-∈ (map f) c P i in
    ⊎_elim
    (λ (y, k, w). (map f y, ∈-append_right (map f y) F (rename f Q) (∈-map (map f) y Q k), subst (λ z. map f y ⊆ z) (sym e) (map-⊆ f y x w)))
    (λ (l, k, z). absurd z)
    (keeps x j))
    (∈-append_cases c F (rename f P) h)

written-added : (are : Literal → Type 0) (lines : List Line) → SpeakOf are lines → SpeakOfAdded are (written lines)
written-added are [] s = tt
written-added are (Add c ∷ lines) (f, s) = (f, written-added are lines s)
written-added are (Delete c ∷ lines) (f, s) = written-added are lines s

-- How lines are those of a step that adds one clause, or of a part of one, which keeps parts of all clauses unless learned ones may be
-- deleted in it.
abbrev pub LinesInSteps : ℕ → ℕ → ℕ → List Line → Search → Type 0
LinesInSteps interval number zero lines t =
    number % interval ≢ 0 → (held after : List Clause) → IsPresentAfter held lines after → Fits after t → KeepsParts [] held after
LinesInSteps interval number (suc k) lines t = (k ≡ 0) × AddOne lines

-- Steps were made, and left some of the assumptions.
module _ (w : Carrying) (p : Spaces) (s : State) (k : Links w p s) (unknown : p.outcome ≡ outcome.Unknown) (t : Search) (v : SearchOutcome) (n : ℕ)
    (lines : List Line) (made : MakesSteps n p.search t v lines) (long : AreLong t) (in-use : AreInUse p t) where
  before : SearchHolds s.clauses (translation w p s.logged) p.search outcome.Unknown
  before = subst (SearchHolds s.clauses (translation w p s.logged) p.search) (ap without_core unknown) k.holds

  -- what the search holds after the steps
  pub steps-hold : SearchHolds s.clauses (translation w p (logged-with w p s lines)) t (without_core v)
  steps-hold =
      let (after, d, o) = made.holds before.held before.holds in
      held-on s.clauses (translation w p s.logged) p.search t (without_core v) before long
      (λ e Q g. answers-covers Q t v (λ q. e (ap without_core q)) (made.answers Q g))
      n lines after d (holds-without after t v o) made.speaks (plain-without v)
      (λ l a. let (x, b) = in-use l a in let q = k.solvers.live (variable_of l) x b in
      (q.0, chain-some p.global_from_solver w.identity (variable_of l) x b ∙ q.1))

  pub steps-log : LogsMore n s.logged (logged-with w p s lines)
  steps-log = let (after, d, o) = made.holds before.held before.holds in
      record {
        entries = lines_logged (translation w p s.logged) lines;
        joined = refl;
        goes =
            (lines-lead n (translation w p s.logged) before.held lines after before.logged d).goes;
      }

  pub steps-derived : AreDerived steps-log.entries
  unfolding steps-log
  steps-derived = written-derived (map (rename_line (carry (translation w p s.logged).identity)) lines)

  -- where the search goes on, each step added a new clause that stays: no clause that was held is a part of it, a forgotten one neither
  steps-adding : v ≡ outcome.Unknown → (last : List Clause) × LeadsAdding n before.logged.held (lines_logged (translation w p s.logged) lines) last
  steps-adding e =
      let r = translation w p s.logged in
      let f = carry r.identity in
      let q = before.logged in
      let (after, d, o) = made.holds before.held before.holds in
      let c = copies w p s k before q.forgotten q.settled in
      let many = made.adds (c.list ++ before.held) (fits_more p.search before.held c.list c.settled before.holds) e in
      let speaks = spoken_wider (IsLiteralOf p.search) (IsInUse r) lines before.within made.speaks in
      let adding = lines_add_new f (carry-opposites r.identity) (IsInUse r) (λ l (i, e). (i, ap r.identity (variable-opposite l) ∙ e))
      (one-literal w p s k) q.forgotten c.list c.copied n n before.held lines after q.inside speaks d many in
      let (last, a, same) = adding_same n (q.forgotten ++ rename f before.held) q.held (lines_logged r lines) (q.forgotten ++ rename f after)
      (same_clauses-back q.held (q.forgotten ++ rename f before.held) q.same) adding in
      (last, a)

  -- one that adds a clause by its only line
  pub steps-one : v ≡ outcome.Unknown → n ≡ 1 → AddOne lines → (interval number : ℕ) → GoesOnInSteps interval number 1 s.logged steps-log.entries
  unfolding steps-log
  steps-one e one (c, alone) interval number =
      let r = translation w p s.logged in
      let d = map (carry r.identity) c in
      let q = before.logged in
      let (last, a) = steps-adding e in
      let are : lines_logged r lines ≡ Writes (Add d) ∷ [] = ap (lines_logged r) alone in
      let b = subst (λ xs. LeadsAdding 1 q.held xs last) are (subst (λ j. LeadsAdding j q.held (lines_logged r lines) last) one a) in
      goes-in-steps interval number 1 s.logged (lines_logged r lines) q.held last q.led
      (subst (λ xs. LeadsInSteps interval number 1 q.held xs last) (sym are) (one-line-step interval number q.held d last b))

  -- parts of all clauses are kept where they are in the search
  pub steps-keep : v ≡ outcome.Unknown →
      ((held after : List Clause) → IsPresentAfter held lines after → Fits after t → KeepsParts [] held after) →
      GoesOnKeeping s.logged steps-log.entries
  unfolding steps-log
  steps-keep e keeps held last d l c h =
      let r = translation w p s.logged in
      let f = carry r.identity in
      let q = before.logged in
      let (after, by, o) = made.holds before.held before.holds in
      let on = lines-lead n r before.held lines after q by in
      let old = q.forgotten ++ rename f before.held in
      let new = q.forgotten ++ rename f after in
      let first = leads_unique [] [] s.logged held q.held refl d q.led in
      let second = leads_unique [] [] (s.logged ++ lines_logged r lines) on.held last refl on.led
      (leads_append [] s.logged held (lines_logged r lines) last d l) in
      let (x, i, u) = same_clauses_find held q.held first c h in
      let (y, j, z) = same_clauses_find q.held old q.same x i in
      let (a, b, m) = kept-here before.held after (keeps before.held after (derives_present before.held lines after (by_derives n before.held lines after by))
      (subst (Holds after t) e o)) f q.forgotten y j in
      let (x', i', u') = same_clauses_find new on.held (same_clauses-back on.held new on.same) a b in
      let (y', j', z') = same_clauses_find on.held last second x' i' in
      inl (y', j', λ l o. u.0 l (z.0 l (m l (u'.0 l (z'.0 l o)))))

  -- the clauses that are added name no variable that left
  pub steps-stayed : SpeakOfAdded (HasStayed s.logged) steps-log.entries
  unfolding steps-log
  steps-stayed =
      let to = (translation w p s.logged).identity in
      written-added (HasStayed s.logged) (map (rename_line (carry to)) lines)
      (spoken-renamed (IsLiteralOf p.search) (HasStayed s.logged) (carry to) lines
      (λ l h left.
      let (i, e) = k.holds.within l h in
      let (x, g) = in-use-lives w p s k (variable_of l) i e in
      let gone = (k.logged.left i).0 (subst (λ j. Retires j ∈ s.logged) (carry-at to l i e) left) in
      let z : Some x ≡ None = sym g ∙ gone.1 in cc)
      made.speaks)

  pub steps-are-logged : IsWholeLog (logged-with w p s lines) s.clauses s.assumptions s.counted s.ever_hidden (IsRetired w s)
  steps-are-logged =
      let to = (translation w p s.logged).identity in
      logged-written s.logged s.clauses s.assumptions s.counted s.ever_hidden (map (rename_line (carry to)) lines)
      (spoken-renamed (IsLiteralOf p.search) (IsCounted s.counted) (carry to) lines
      (λ l h. let (i, e) = k.holds.within l h in counted-literal w p s k l i e) made.speaks) k.logged

  -- the core that is found, over identities, conflicts with what is held
  core-conflicts : (found : List Literal) → v ≡ outcome.UnsatUnder found → (held : List Clause) → Leads [] (logged-with w p s lines) held →
      Conflicts held (map (carry (translation w p s.logged).identity) found)
  core-conflicts found e held led =
      let (after, d, o) = made.holds before.held before.holds in
      let on = lines-lead n (translation w p s.logged) before.held lines after before.logged d in
      let f = carry (translation w p s.logged).identity in
      let all = before.logged.forgotten ++ rename f after in
      let core = map f found in
      conflicts_same on.held held core (leads_unique [] [] (s.logged ++ lines_logged (translation w p s.logged) lines) on.held held refl on.led led)
      (conflicts_same all on.held core (same_clauses-back on.held all on.same)
      (conflicts_more (rename f after) all core core
      (covered_by_more (rename f after) all (λ c h. ∈-append_right c before.logged.forgotten (rename f after) h)) (λ l h. h)
      (conflicts_renamed f (carry-opposites (translation w p s.logged).identity) after found (subst (Holds after t) e o).1)))

  -- the lines, by any map that gives live identities their global variables
  lines-carried : (m : ℕ → Option ℕ) → ((i x : ℕ) → w.global i ≡ Some x → m i ≡ Some x) →
      logged_as (carry m) (lines_logged (translation w p s.logged) lines) ≡ logged_as (carry p.global_from_solver) (written lines)
  lines-carried m leads = logged-carried (carry (translation w p s.logged).identity) (carry m) (carry p.global_from_solver)
      (IsLiteralOf p.search) lines (λ l h. global-carried w p s k m leads l (k.holds.within l h)) made.speaks

  -- what a proof logs of them
  pub steps-logged-as : AreLoggedAs s.variables s.logged (logged-with w p s lines) (logged_as (carry p.global_from_solver) (written lines ++ []))
  steps-logged-as = record {
    entries = lines_logged (translation w p s.logged) lines;
    joined = refl;
    stays = written_stays (map (rename_line (carry (translation w p s.logged).identity)) lines);
    same = lines-carried s.variables k.variables ∙ ap (logged_as (carry p.global_from_solver)) (sym (append-nil (written lines)));
  }

  -- the checker that took the lines
  pub steps-checked : (checker : Option CheckerState) → IsCheckedIf p.checker
      (logged_as (carry p.global_from_solver) (written lines)) checker → CheckerFits w.global (logged-with w p s lines) checker
  steps-checked checker c =
      let r = translation w p s.logged in
      checker-on w.global s.logged (lines_logged r lines) p.checker checker (written_stays (map (rename_line (carry r.identity)) lines))
      (subst (λ es. IsCheckedIf p.checker es checker)
      (sym (lines-carried w.global (λ i x e. e))) c)
      k.checked

  module _ (x y : AssumptionParts) (same : p.working ≡ x.working) (keeps : KeepsAssumptions p.search v x y) (checker : Option CheckerState) where
    pub left : WorkingFits s.clauses (translation w p s.logged).identity s.assumptions y.working
    left = working-on s.clauses (translation w p s.logged) p.search v s.assumptions x y before keeps
        (subst (WorkingFits s.clauses (translation w p s.logged).identity s.assumptions) same k.working)

    -- without a verdict
    pub went-on : (m : ℕ → Bool) (core : List Literal) → IsCheckedIf p.checker
        (logged_as (carry p.global_from_solver) (written lines)) checker → v ≡ outcome.Unknown →
        Links w (with_found t v m y.working core checker p) (with_entries (logged-with w p s lines) (with_verdict Unknown s))
    went-on m core c e = decided w p s (logged-with w p s lines) steps-are-logged t v m y.working core checker Unknown k
        (steps-checked checker c) steps-hold left (subst (λ y. VerdictFits w.identity m y Unknown) (sym e) tt) tt tt

    pub unsat-found : (m : ℕ → Bool) (core : List Literal) → IsCheckedIf p.checker
        (logged_as (carry p.global_from_solver) (written lines)) checker → v ≡ outcome.Unsat →
        Links w (with_found t v m y.working core checker p) (with_entries (logged-with w p s lines) (with_verdict Unsat s))
    unsat-found m core c e =
        let none = refuted s.clauses (translation w p (logged-with w p s lines)) t
        (subst (SearchHolds s.clauses (translation w p (logged-with w p s lines)) t) (ap without_core e) steps-hold) in
        decided w p s (logged-with w p s lines) steps-are-logged t v m y.working core checker Unsat k
        (steps-checked checker c) steps-hold left (subst (λ y. VerdictFits w.identity m y Unsat) (sym e) tt) tt none

    -- a core was found, which is returned over names in use
    pub core-logs : (found logged : List Literal) → v ≡ outcome.UnsatUnder found →
        map (carry s.naming.names) logged ≡ map (carry (translation w p s.logged).identity) found →
        LogsMore n s.logged ((logged-with w p s lines) ++ Fails (map (carry s.naming.names) logged) ∷ [])
    core-logs found logged e same-core = logs-also n s.logged (logged-with w p s lines) (Fails (map (carry s.naming.names) logged) ∷ []) steps-log
        (λ held d. (held, (held, (subst (Conflicts held) (sym same-core) (core-conflicts found e held d), refl), inl (tt, refl))))

    -- and that at last
    pub core-ends : (found logged : List Literal) (e : v ≡ outcome.UnsatUnder found) (same-core : map (carry s.naming.names) logged ≡ map
        (carry (translation w p s.logged).identity) found) → EndWithCore (map (carry s.naming.names) logged) (core-logs found logged e same-core).entries
    unfolding core-logs
    core-ends found logged e same-core =
        also-ends n s.logged (logged-with w p s lines) (map (carry s.naming.names) logged) steps-log steps-derived _

    -- the lines and the core
    core-carried : (m : ℕ → Option ℕ) → ((i x : ℕ) → w.global i ≡ Some x → m i ≡ Some x) → (found logged : List Literal) →
        v ≡ outcome.UnsatUnder found → map (carry s.naming.names) logged ≡ map (carry (translation w p s.logged).identity) found →
        logged_as (carry m) (lines_logged (translation w p s.logged) lines ++ Fails (map (carry s.naming.names) logged) ∷ []) ≡ logged_as
        (carry p.global_from_solver) (written lines ++ Fails found ∷ [])
    core-carried m leads found logged e same-core =
        let to = carry (translation w p s.logged).identity in
        let g = carry m in
        let h = carry p.global_from_solver in
        let ls = lines_logged (translation w p s.logged) lines in
        let used = λ (l : Literal) (i : l ∈ found). k.working.used l (subst (λ ws. l ∈ ws) (sym same) ((keeps.core found e).0 l i)) in
        let one : map g (map (carry s.naming.names) logged) ≡ map h found = ap (map g) same-core
        ∙ map-map g to h found (λ l i. global-carried w p s k m leads l (used l i)) in
        logged_as-append g ls (Fails (map (carry s.naming.names) logged) ∷ [])
        ∙ ap (λ es. es ++ Fails (map g (map (carry s.naming.names) logged)) ∷ []) (lines-carried m leads)
        ∙ ap (λ (ms : List Literal). logged_as h (written lines) ++ Fails ms ∷ []) one
        ∙ sym (logged_as-append h (written lines) (Fails found ∷ []))

    -- what a proof logs of them
    pub core-logged-as : (found logged : List Literal) → v ≡ outcome.UnsatUnder found →
        map (carry s.naming.names) logged ≡ map (carry (translation w p s.logged).identity) found →
        AreLoggedAs s.variables s.logged (logged-with w p s lines ++ Fails (map (carry s.naming.names) logged) ∷ [])
        (logged_as (carry p.global_from_solver) (written lines ++ Fails found ∷ []))
    core-logged-as found logged e same-core =
        let ls = lines_logged (translation w p s.logged) lines in
        record {
          entries = ls ++ Fails (map (carry s.naming.names) logged) ∷ [];
          joined = append_assoc s.logged ls (Fails (map (carry s.naming.names) logged) ∷ []);
          stays = stays_append ls (Fails (map (carry s.naming.names) logged) ∷ [])
              (written_stays (map (rename_line (carry (translation w p s.logged).identity)) lines)) tt;
          same = core-carried s.variables k.variables found logged e same-core;
        }

    core-checked : (found logged : List Literal) → IsCheckedIf p.checker
        (logged_as (carry p.global_from_solver) (written lines ++ Fails found ∷ [])) checker → v ≡ outcome.UnsatUnder found →
        map (carry s.naming.names) logged ≡ map (carry (translation w p s.logged).identity) found →
        CheckerFits w.global ((logged-with w p s lines) ++ Fails (map (carry s.naming.names) logged) ∷ []) checker
    core-checked found logged c e same-core =
        let r = translation w p s.logged in
        let to = carry r.identity in
        let ls = lines_logged r lines in
        let all = core-carried w.global (λ i x q. q) found logged e same-core in
        subst (λ es. CheckerFits w.global es checker) (sym (append_assoc s.logged ls (Fails (map (carry s.naming.names) logged) ∷ [])))
        (checker-on w.global s.logged (ls ++ Fails (map (carry s.naming.names) logged) ∷ []) p.checker checker
        (stays_append ls (Fails (map (carry s.naming.names) logged) ∷ []) (written_stays (map (rename_line to) lines)) tt)
        (subst (λ es. IsCheckedIf p.checker es checker) (sym all) c)
        k.checked)

    pub core-found : (m : ℕ → Bool) (found logged : List Literal) →
        IsCheckedIf p.checker (logged_as (carry p.global_from_solver) (written lines ++ Fails found ∷ [])) checker →
        v ≡ outcome.UnsatUnder found → ((l : Literal) → l ∈ logged → (i : ℕ) × (s.naming.names (variable_of l) ≡ Some i)) →
        map (carry s.naming.names) logged ≡ map (carry (translation w p s.logged).identity) found →
        Links w (with_found t v m y.working logged checker p)
        (with_entries ((logged-with w p s lines) ++ Fails (map (carry s.naming.names) logged) ∷ [])
        (with_verdict (UnsatUnderAssumptions (map (carry s.naming.names) logged)) s))
    core-found m found logged c e named same-core =
        let to = (translation w p s.logged).identity in
        let as' = s.assumptions in
        let part : map (carry s.naming.names) logged ⊆ as' = (λ l i.
        let (z, j, q) = map-∈ (carry to) l found (subst (λ xs. l ∈ xs) same-core i) in
        subst (λ y. y ∈ as') (sym q) (k.working.part (carry to z)
        (∈-map (carry to) z p.working (subst (λ xs. z ∈ xs) (sym same) ((keeps.core found e).0 z j))))) in
        let none : IsSatisfiableWith s.clauses (map (carry s.naming.names) logged) → ⊥ = (λ (a, sat, true-core).
        let b : Assignment = λ v. a (identity_of (to v)) in
        let (after, d, o) = made.holds before.held before.holds in
        let all = derives_sound before.held lines after b (by_derives n before.held lines after d) (before.implied a b sat (agrees-through to a)) in
        conflicts_sound after found b all (carried-true to a found (subst (MakesTrue a) same-core true-core)) (subst (Holds after t) e o).1) in
        let last = Fails (map (carry s.naming.names) logged) in
        let some : map (carry s.naming.names) logged ≢ [] = (λ q. (keeps.core found e).1 (map-empty (carry to) found (sym same-core ∙ q))) in
        decided w p s ((logged-with w p s lines) ++ last ∷ [])
        (logged-failed (logged-with w p s lines) s.clauses s.assumptions s.counted s.ever_hidden (map (carry s.naming.names) logged) part steps-are-logged)
        t v m y.working
        logged checker (UnsatUnderAssumptions (map (carry s.naming.names) logged)) k
        (core-checked found logged c e same-core)
        (holds-same s.clauses (translation w p (logged-with w p s lines)) (translation w p ((logged-with w p s lines) ++ last ∷ [])) t (without_core v)
        (λ u. refl) (λ i. refl)
        (λ share q. logged-quiet (translation w p (logged-with w p s lines)) last
        (λ held d. (subst (Conflicts held) (sym same-core) (core-conflicts found e held d), refl)) t.fixed share (without_core v) q) steps-hold)
        left (subst (λ y. VerdictFits w.identity m y (UnsatUnderAssumptions (map (carry s.naming.names) logged))) (sym e) some) (named, refl) (part, none)

-- what is logged is logged in steps, then
pub steps-in-turn : (w : Carrying) (p : Spaces) (s : State) (k : Links w p s) (unknown : p.outcome ≡ outcome.Unknown) (t : Search) (v : SearchOutcome) (n : ℕ)
    (lines : List Line) (made : MakesSteps n p.search t v lines) (long : AreLong t) (in-use : AreInUse p t) (interval number : ℕ) →
    v ≡ outcome.Unknown → LinesInSteps interval number n lines t →
    LogsInSteps interval number n s.logged (steps-log w p s k unknown t v n lines made long in-use).entries
steps-in-turn w p s k unknown t v zero lines made long in-use interval number e keeps =
    λ due. steps-keep w p s k unknown t v zero lines made long in-use e (keeps due)
steps-in-turn w p s k unknown t v (suc n) lines made long in-use interval number e (one, adds) =
    let same : suc n ≡ 1 = ap suc one in
    subst (λ j. GoesOnInSteps interval number j s.logged (steps-log w p s k unknown t v (suc n) lines made long in-use).entries) (sym same)
    (steps-one w p s k unknown t v (suc n) lines made long in-use e same adds interval number)

module _ (w : Carrying) (p : Spaces) (s : State) (k : Links w p s) (unknown : p.outcome ≡ outcome.Unknown) (t : Search) (f : Assignment) (n : ℕ)
    (lines : List Line) (made : MakesSteps n p.search t (outcome.Sat f) lines) (long : AreLong t) (in-use : AreInUse p t) where
  pub found : Assignment
  found i = value_or (w.forced i) f (chain w.global p.solver_from_global i)

  found-solved : (v i : ℕ) → (translation w p s.logged).identity v ≡ Some i → found i ≡ f v
  unfolding found
  found-solved v i e = ap (value_or (w.forced i) f) (there-back w p s k v i e)

  found-literal : (l : Literal) → IsLiteralOf p.search l → value found (carry (translation w p s.logged).identity l) ≡ value f l
  found-literal l a =
      let (i, e) = k.holds.within l a in
      value-carry (translation w p s.logged).identity found l ∙ value-same (λ v. found (identity_of ((translation w p s.logged).identity v))) f l
      (ap (λ o. found (identity_of o)) e ∙ found-solved (variable_of l) i e)

  found-forced : (l : Literal) → is_forced w.forced l ≡ true → value found l ≡ true
  unfolding found
  found-forced l e = value-true found l (by-forced (variable_of l) (polarity_of l) (forced-value w.forced l e))
    where
      by-forced : (i : ℕ) (b : Bool) → w.forced i ≡ Some b → found i ≡ b
      by-forced i b e =
          ⊎_elim
          (λ o. ap (value_or (w.forced i) f) o ∙ ap is_true_value e)
          (λ (v, o).
          let q = (back-there w p s k v i o).0 in
          let h = before w p s k unknown t (outcome.Sat f) n lines made long in-use in
          let m = literal_of v b in
          let z = h.fixed (λ q. let z : outcome.Unknown ≡ outcome.Unsat = q in cc) m i
          (ap (translation w p s.logged).identity (variable-literal v b) ∙ q) (e ∙ ap Some (sym (polarity-literal v b))) in
          let (l, a, y) = (made.answers ((m ∷ []) ∷ [])
          (λ c. elim [ inl e ↦ inl (inr (m, subst (λ x. m ∈ x) (sym e) (inl refl), z)) | inr z ↦ absurd z ])).1 (m ∷ []) (inl refl) in
          let only : l ≡ m = ⊎_elim (λ e. e) (λ z. absurd z) a in
          ap (value_or (w.forced i) f) o ∙ ap f (sym (variable-literal v b)) ∙ true-value f m (subst (λ x. value f x ≡ true) only y) ∙ polarity-literal v b)
          (is-some (chain w.global p.solver_from_global i))

  found-satisfies : SatisfiesAll found s.clauses
  found-satisfies =
      names_satisfied n p.search t f found lines (carry (translation w p s.logged).identity) (is_forced w.forced) s.clauses made
      ((before w p s k unknown t (outcome.Sat f) n lines made long in-use).covered (λ q. let z : outcome.Unknown ≡ outcome.Unsat = q in cc))
      found-literal found-forced

  pub sat-found : (x y : AssumptionParts) → p.working ≡ x.working → KeepsAssumptions p.search (outcome.Sat f) x y →
      (core : List Literal) (checker : Option CheckerState) → IsCheckedIf p.checker (logged_as (carry p.global_from_solver) (written lines)) checker →
      Links w (with_found t (outcome.Sat f) (λ x. value_or (p.kept x).unit f (p.solver_from_global x)) y.working core checker p)
      (with_entries (logged-with w p s lines) (with_verdict (Sat found) s))
  unfolding found
  sat-found x y same keeps core checker c =
      let fits = left w p s k unknown t (outcome.Sat f) n lines made long in-use x y same keeps checker in
      decided w p s (logged-with w p s lines) (steps-are-logged w p s k unknown t (outcome.Sat f) n lines made long in-use) t (outcome.Sat f)
      (λ x. value_or (p.kept x).unit f (p.solver_from_global x)) y.working core checker (Sat found) k
      (steps-checked w p s k unknown t (outcome.Sat f) n lines made long in-use checker c)
      (steps-hold w p s k unknown t (outcome.Sat f) n lines made long in-use)
      fits
      (λ x i e. ap (λ o. value_or o f (chain w.global p.solver_from_global i)) (k.units.unit x i e)
      ∙ ap (value_or (p.kept x).unit f) (chain-some w.global p.solver_from_global i x (k.identities.one_to_one.there x i e)))
      tt (
        found-satisfies,
        fits.implied found found-satisfies (λ l h.
            let (g, b, e) = map-∈ (carry (translation w p s.logged).identity) l y.working h in
            let (i, c) = fits.used g b in
            ap (value found) e ∙ value-carry (translation w p s.logged).identity found g
            ∙ value-same (λ v. found (identity_of ((translation w p s.logged).identity v))) f g
            (ap (λ o. found (identity_of o)) c ∙ found-solved (variable_of g) i c) ∙ keeps.model f refl g b),
        λ i h. ⊎_elim
            (λ e. ap (value_or (w.forced i) f) e ∙ ⊎_elim (λ u. ap is_true_value u) (λ (b, u). absurd (h (k.units.is_counted i b u))) (is-some (w.forced i)))
            (λ (v, e). absurd (h (back-there w p s k v i e).1))
            (is-some (chain w.global p.solver_from_global i)),
      )

pub model-same : (id : ℕ → Option ℕ) (m m' : ℕ → Bool) (o : SearchOutcome) (v : Verdict) →
    ((found : Assignment) → o ≡ outcome.Sat found → (x : ℕ) → m' x ≡ m x) → VerdictFits id m o v → VerdictFits id m' o v
model-same id m m' outcome.Unknown Unknown h f = tt
model-same id m m' outcome.Unknown (Sat a) h f = f
model-same id m m' outcome.Unknown Unsat h f = f
model-same id m m' outcome.Unknown (UnsatUnderAssumptions core) h f = f
model-same id m m' (outcome.Sat a0) Unknown h f = f
model-same id m m' (outcome.Sat a0) (Sat a) h f = λ x i e. f x i e ∙ sym (h a0 refl x)
model-same id m m' (outcome.Sat a0) Unsat h f = f
model-same id m m' (outcome.Sat a0) (UnsatUnderAssumptions core) h f = f
model-same id m m' outcome.Unsat Unknown h f = f
model-same id m m' outcome.Unsat (Sat a) h f = f
model-same id m m' outcome.Unsat Unsat h f = tt
model-same id m m' outcome.Unsat (UnsatUnderAssumptions core) h f = f
model-same id m m' (outcome.UnsatUnder core0) Unknown h f = f
model-same id m m' (outcome.UnsatUnder core0) (Sat a) h f = f
model-same id m m' (outcome.UnsatUnder core0) Unsat h f = f
model-same id m m' (outcome.UnsatUnder core0) (UnsatUnderAssumptions core) h f = f

-- The maps and what is kept agree at each place, and the model where one was found. No more global variables were made.
pub record HaveSameMaps (p q : Spaces) : Type 0 where
  pub global_from_user : (u : ℕ) → q.global_from_user u ≡ p.global_from_user u
  pub user_from_global : (x : ℕ) → q.user_from_global x ≡ p.user_from_global x
  pub watermark : q.watermark ≡ p.watermark
  pub globals : q.globals ≡ p.globals
  pub solver_from_global : (x : ℕ) → q.solver_from_global x ≡ p.solver_from_global x
  pub global_from_solver : (v : ℕ) → q.global_from_solver v ≡ p.global_from_solver v
  pub kept : (x : ℕ) → q.kept x ≡ p.kept x
  pub model : (found : Assignment) → p.outcome ≡ outcome.Sat found → (x : ℕ) → q.model x ≡ p.model x

-- they do where the spaces differ in the search and its parts alone, and what is kept and the model agree
pub maps-alike : (p q : Spaces) →
    q ≡ record p {
      kept = q.kept;
      model = q.model;
      assumptions = q.assumptions;
      core = q.core;
      working = q.working;
      search = q.search;
      outcome =
          q.outcome;
      var_count = q.var_count;
      checker = q.checker;
    } → ((x : ℕ) → q.kept x ≡ p.kept x) →
    ((found : Assignment) → p.outcome ≡ outcome.Sat found → (x : ℕ) → q.model x ≡ p.model x) → HaveSameMaps p q
maps-alike p q e kept model = record {
  global_from_user = λ u. ap (λ (y : Spaces). y.global_from_user u) e;
  user_from_global = λ x. ap (λ (y : Spaces). y.user_from_global x) e;
  watermark = ap (λ (y : Spaces). y.watermark) e;
  globals = ap (λ (y : Spaces). y.globals) e;
  solver_from_global = λ x. ap (λ (y : Spaces). y.solver_from_global x) e;
  global_from_solver = λ v. ap (λ (y : Spaces). y.global_from_solver v) e;
  kept = kept;
  model = model;
}

-- Two spaces agree at each place.
pub record AreSame (p q : Spaces) : Type 0 where
  pub maps : HaveSameMaps p q
  pub assumptions : q.assumptions ≡ p.assumptions
  pub core : q.core ≡ p.core
  pub working : q.working ≡ p.working
  pub search : q.search ≡ p.search
  pub outcome : q.outcome ≡ p.outcome
  pub var_count : q.var_count ≡ p.var_count
  pub checker : q.checker ≡ p.checker

pub spaces-same : (p q : Spaces) (s : State) → AreSame p q → SpacesFit p s → SpacesFit q s
spaces-same p q s e (w, k) = (
  w,
  record {
    identities = identities-same w.identity w.global p.kept q.kept s.naming.made (λ x. ap (λ y. y.deleted) (e.maps.kept x)) k.identities;
    names = names-same w.identity p.global_from_user p.user_from_global q.global_from_user q.user_from_global s.naming.names s.naming.watermark
        e.maps.global_from_user e.maps.user_from_global k.names;
    modes = modes-same w.identity p.global_from_user p.user_from_global q.global_from_user q.user_from_global p.kept q.kept s.naming.modes
        e.maps.global_from_user e.maps.user_from_global (λ x. ap (λ y. y.sampling_mode) (e.maps.kept x)) k.modes;
    watermark = k.watermark ∙ sym e.maps.watermark;
    globals = let b = e.maps.globals in let c = k.globals in omega (arith, b, c);
    units = units-same w.identity w.forced p.kept q.kept s.counted (λ x. ap (λ y. y.unit) (e.maps.kept x)) k.units;
    isolation = isolation-same w.identity w.forced p.kept q.kept s.clauses s.naming.made (λ x. ap (λ y. y.isolated) (e.maps.kept x)) k.isolation;
    solvers = solvers-same w.identity p.solver_from_global p.global_from_solver q.solver_from_global q.global_from_solver s.counted
        e.maps.solver_from_global e.maps.global_from_solver k.solvers;
    holds = subst (λ t. SearchHolds s.clauses (translation w q s.logged) t (without_core q.outcome)) (sym e.search)
        (subst (λ o. SearchHolds s.clauses (translation w q s.logged) p.search (without_core o)) (sym e.outcome)
        (holds-same s.clauses (translation w p s.logged) (translation w q s.logged) p.search (without_core p.outcome)
        (λ v. ap (λ y. onward y w.identity) (e.maps.global_from_solver v)) (λ i. refl)
        (λ share z. logged-same (translation w p s.logged) (translation w q s.logged) p.search.fixed share (without_core p.outcome)
        (λ v. ap (λ y. onward y w.identity) (e.maps.global_from_solver v)) (λ i. refl) (λ i y b o g. (y, g)) (λ i y g. (y, g)) refl z) k.holds));
    assumptions = subst (λ y. AssumptionsFit q.global_from_user q.solver_from_global s.naming.names y s.assumptions) (sym e.assumptions)
        (assumptions-same p.global_from_user p.solver_from_global q.global_from_user q.solver_from_global s.naming.names p.assumptions s.assumptions
        e.maps.global_from_user e.maps.solver_from_global k.assumptions);
    marks = subst (MarksFit q.global_from_user q.kept) (sym e.assumptions)
        (marks-same p.global_from_user q.global_from_user p.kept q.kept p.assumptions e.maps.global_from_user
        (λ x. ap (λ y. y.assumed) (e.maps.kept x)) k.marks);
    working = subst (WorkingFits s.clauses (translation w q s.logged).identity s.assumptions) (sym e.working)
        (working-same s.clauses (translation w p s.logged).identity (translation w q s.logged).identity s.assumptions p.working
        (λ l h. ap (λ y. onward y w.identity) (e.maps.global_from_solver (variable_of l))) k.working);
    verdict = subst (λ y. VerdictFits w.identity q.model y s.verdict) (sym e.outcome)
        (model-same w.identity p.model q.model p.outcome s.verdict e.maps.model k.verdict);
    core = subst (λ c. CoreFits s.naming.names c s.verdict) (sym e.core) k.core;
    right = k.right;
    well_formed = k.well_formed;
    few = subst (λ n. n ≤ length s.counted) (sym e.var_count) k.few;
    shown = λ h x n. ap (λ y. y.deleted) (e.maps.kept x) ∙ k.shown h x (sym (e.maps.user_from_global x) ∙ n);
    plain = k.plain;
    variables = k.variables;
    numbered = λ i x h. let b = e.maps.globals in let c = k.numbered i x h in omega (arith, b, c);
    logged = k.logged;
    checked = subst (CheckerFits w.global s.logged) (sym e.checker) k.checked;
  },
)

-- Only the maps may differ, and they agree.
pub maps-same : (p q : Spaces) (s : State) → HaveSameMaps p q →
    q ≡ record p {
      global_from_user = q.global_from_user;
      user_from_global = q.user_from_global;
      watermark = q.watermark;
      globals =
          q.globals;
      solver_from_global = q.solver_from_global;
      global_from_solver = q.global_from_solver;
      kept = q.kept;
      model = q.model;
    } →
    SpacesFit p s → SpacesFit q s
maps-same p q s m e = spaces-same p q s (record {
  maps = m;
  assumptions = ap (λ (x : Spaces). x.assumptions) e;
  core = ap (λ (x : Spaces). x.core) e;
  working = ap (λ (x : Spaces). x.working) e;
  search = ap (λ (x : Spaces). x.search) e;
  outcome = ap (λ (x : Spaces). x.outcome) e;
  var_count = ap (λ (x : Spaces). x.var_count) e;
  checker = ap (λ (x : Spaces). x.checker) e;
})

-- as many variables as before
pub recount : (w : Carrying) (p : Spaces) (m n : ℕ) (s : State) → n ≡ m → Links w (record p { var_count = m }) s → Links w (record p { var_count = n }) s
recount w p m n s e k = subst (λ c. Links w (record p { var_count = c }) s) (sym e) k
