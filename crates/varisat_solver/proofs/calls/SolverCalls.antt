-- What the solver's calls do to the states that it represents.
use Rattle.std.proofs.Common.{Result, Ok, Err, Vec, ◌≡◌, ◌≢◌, ◌↔◌, if◌then◌else◌, ℕ, zero, suc, ◌+◌, ◌-◌, ◌<◌, ◌≤◌, Bool, true, false, not, Option, Some, None, List, [], ◌∷◌, ◌++◌, ◌⊎◌, inl, inr, ⊎_elim, length, map, get_or, sym, ap, ◌∙◌, subst, refl, arith}
use Rattle.varisat_theory.specs.promises.Membership.{◌∈◌}
use Rattle.varisat_theory.specs.promises.Literals.{Literal, Clause, Assignment, variable_of, IsSatisfiableWith, IsFailedCore}
use Rattle.varisat_theory.specs.promises.Derivations.{Line}
use Rattle.varisat_theory.specs.promises.CallBounds.{AreFew}
use Rattle.varisat_theory.specs.promises.Searches.{IsLiteralOf}
use Rattle.varisat_theory.specs.inside.Outcomes.{SearchOutcome, MakesSteps}
use Rattle.varisat_theory.specs.inside.Outcomes as outcome
use Rattle.varisat_theory.proofs.journals.Renaming.{map-∈}
use Rattle.varisat_prop.proofs.trails.LiteralValues.{same-literal}
use Rattle.varisat_theory.proofs.steps.StepAccounts.{first_accounts}
use Rattle.varisat_prop.specs.Parts.{is_true_value}
use Rattle.varisat_prop.specs.View.{View, WellFormed}
use Rattle.varisat_search.specs.declared.state.SatState.{SatState}
use Rattle.varisat_search.specs.declared.state.SatState.TheVariants as verdict
use Rattle.varisat_search.specs.declared.context.Context.{Context}
use Rattle.varisat_search.specs.AssumptionParts.{AssumptionParts, no_assumptions, KeepsAssumptions}
use Rattle.varisat_search.specs.Contexts.{view, IsReady}
use Rattle.varisat_search.specs.Decisions.{IsDecidable}
use Rattle.varisat_search.specs.Seen.{search_of, outcome_of, first_search}
use Rattle.varisat_search.specs.Steps.{assignment_of}
use Rattle.varisat_names.specs.promises.Maps.{chain}
use Rattle.varisat_names.specs.promises.VarMap.{at, IsLeastUnmapped}
use Rattle.varisat_names.specs.promises.VarData.{data_at}
use Rattle.varisat_names.specs.promises.Variables.{Tables, no_variables, IsGiven}
use Rattle.varisat_names.proofs.Maps.{chain-none, chain-some, chain-through, is-some}
use Rattle.varisat_solver.specs.promises.Budgets.{CountsSteps}
use Rattle.varisat_solver.specs.declared.solver.SolverError.{SolverError}
use Rattle.varisat_solver.specs.promises.States.{State, Ledger, Verdict, Unknown, Sat, Unsat, UnsatUnderAssumptions, IsRight, empty_state}
use Rattle.varisat_solver.specs.promises.Names.{Naming, bring, bring_next, bring_if_free, name_one, IsLeastFree}
use Rattle.varisat_solver.specs.promises.Models.{put_name, model_of, IsCompletable, core_of, IsReturnedCore}
use Rattle.varisat_solver.specs.promises.Calls.{by_state, with_naming, IsValid, Decided, ReturnsList, ReturnsVerdict, answer_of, with_verdict}
use Rattle.varisat_solver.specs.promises.ReturnedLists.{returned_list}
use Rattle.std.specs.Option.{IsSome}
use Rattle.std.specs.Result.{IsErr}
use Rattle.std.specs.declared.alloc.AllocError.{AllocError}
use Rattle.varisat_tracer.specs.promises.Carried.{carry, logged_as}
use Rattle.varisat_solver.specs.inside.Carried.{value_or}
use Rattle.varisat_solver.specs.inside.Accepting.{HasUser}
use Rattle.varisat_proof.specs.promises.Calls.{CheckerState}
use Rattle.varisat_proof.specs.promises.Proving.{IsCheckedIf}
use Rattle.varisat_tracer.specs.inside.Tracing.{TracerState, global_literal, TakesGlobally}
use Rattle.varisat_solver.specs.inside.Searches.{answer_at, Turn, ComesTo}
use Rattle.varisat_solver.proofs.steps.BegunSteps.{begins-nothing}
use Rattle.std.proofs.lemmas.List.{append-nil}
use Rattle.varisat_theory.specs.promises.Journals.{Entry, Fails, written}
use Rattle.varisat_steps.specs.Traces.{TakesStep}
use Rattle.varisat_solver.proofs.entries.LoggedProofs.{proof-logged}
use Rattle.varisat_proof.specs.promises.Passing.{LogsConflict}
use Rattle.varisat_solver.specs.promises.Journals.{with_entries, LogsMore}
use Rattle.varisat_solver.proofs.entries.LoggedEntries.{logs-nothing}
use Rattle.varisat_solver.specs.inside.Spaces.{Carrying, Translation, HeldFits, translation, without_core, CoreFits, VerdictFits, Links, SpacesFit, FitWithNew, list_globals}
use Rattle.varisat_solver.specs.promises.Summaries.{Summary}
use Rattle.varisat_solver.specs.inside.Representations.{IsValidSolver, Represents, spaces, spaces_of, list_tables}
use Rattle.varisat_solver.proofs.calls.SpacesAgree.{map-map, AreInUse}
use Rattle.varisat_solver.proofs.calls.CallStates.{like-still}
use Rattle.varisat_solver.proofs.steps.SearchVerdicts.{right-false, right-core}
use Rattle.varisat_solver.proofs.calls.Carried.{carry-at, carry-sign}
use Rattle.varisat_solver.proofs.steps.SolveVerdict.{logged-with, LinesInSteps, steps-log, steps-derived, steps-in-turn, steps-stayed, core-ends, steps-logged-as, core-logs, core-logged-as, maps-alike, recount, spaces-same, sat-found, unsat-found, core-found, found, went-on}
use Rattle.varisat_solver.proofs.calls.ModelsFit.{logged, is-sat, is-unsat, is-core, is-unknown}
use Rattle.varisat_solver.proofs.accepting.AcceptClause.{with_tables, name-below, name-above, given-spaces}
use Rattle.varisat_solver.proofs.steps.SearchLinks.{view-long}

-- 1. A new solver.

pub first-kept : {A : Type 0} (t : Tables) (c : Context A) → t ≡ no_variables → IsReady c → length c.assignment.current ≡ 0 →
    c.assumptions ≡ no_assumptions → ((v : ℕ) → IsDecidable (view c) c.vsids v → ⊥) → IsValidSolver t c
first-kept t c e r n s d = record {
  bounded = record {
    users = let z = ap (λ (x : Tables). length x.users.forward) e in
        omega (arith, z);
    globals = let z = ap (λ (x : Tables). length x.kept) e in
        omega (arith, z);
    solvers = let z = ap (λ (x : Tables). length x.solvers.backward) e in omega (arith, z);
  };
  ready = r;
  count = n ∙ ap (λ (x : Tables). length x.solvers.backward) (sym e);
  decidable = λ v. ((λ h. absurd (d v h)), (λ h. let z : false ≡ true = subst (λ (x : Tables). IsSome (at x.solvers.backward v)) e h in absurd cc));
  assumed = λ l h. absurd (subst (λ (x : AssumptionParts). l ∈ x.user) s h);
  marked = λ l x h. absurd (subst (λ (y : AssumptionParts). l ∈ y.user) s h);
  working = λ l h. absurd (subst (λ (x : AssumptionParts). l ∈ x.working) s h);
}

pub first-spaces : (s : View) → search_of s ≡ first_search → length s.values ≡ 0 →
    SpacesFit (spaces_of no_variables None s no_assumptions verdict.Unknown) empty_state
first-spaces s e n =
    let f = first_accounts (search_of s) e in (
      record { identity = λ x. None; global = λ i. None; forced = λ i. None },
      record {
        identities = record {
          one_to_one = record { there = λ x y e. absurd cc; back = λ x y e. absurd cc };
          live = λ x i e. absurd cc;
          deleted =
              λ x e. refl;
          below = λ x i e. absurd cc;
        };
        names = record {
          one_to_one = record {
            there = λ x y e. absurd (let z : None ≡ Some y = e in cc);
            back =
                λ x y e. absurd (let z : None ≡ Some x = e in cc);
          };
          agree = λ u. refl;
          live = λ u x e. absurd (let z : None ≡ Some x = e in cc);
          free =
              λ u h. refl;
        };
        modes = record { mode = λ u x i e. absurd (let z : None ≡ Some x = e in cc); unnamed = λ x e. refl };
        watermark = refl;
        globals = omega arith;
        units = record { unit = λ x i e. absurd (let z : None ≡ Some i = e in cc); is_counted = λ i b e. absurd (let z : None ≡ Some b = e in cc) };
        isolation = λ i h. absurd (omega arith);
        solvers = record {
          one_to_one =
              record { there = λ x y e. absurd (let z : None ≡ Some y = e in cc); back = λ x y e. absurd (let z : None ≡ Some x = e in cc) };
          live =
              λ v x e. absurd (let z : None ≡ Some x = e in cc);
        };
        holds = record {
          held = [];
          holds = f.holds;
          within = λ l h. absurd (nothing l (subst (λ t. IsLiteralOf t l) e h));
          implied = λ a b m g c h. absurd h;
          known = λ a m i b e. absurd (let z : None ≡ Some b = e in cc);
          fixed = λ o l i e. absurd (let z : None ≡ Some i = e in cc);
          covered = λ o c h. absurd h;
          logged = record {
            held = [];
            led = refl;
            forgotten = [];
            same = refl;
            inside = λ c l h. absurd h;
            units =
                λ i b x e. absurd (let z : None ≡ Some b = e in cc);
            live = λ c l h. absurd h;
            settled = λ c h. absurd h;
          };
        };
        assumptions = record { agree = refl; taken = λ l h. absurd h };
        marks = record { marked = λ l x h. absurd h; only = λ x e. absurd (let z : false ≡ true = e in cc) };
        working = record { used = λ l h. absurd h; part = λ l h. h; implied = λ a m t. t };
        verdict = tt;
        core = tt;
        right = tt;
        well_formed = record {
          one_to_one = λ u v i e. absurd (let z : None ≡ Some i = e in cc);
          free = λ u h. refl;
          named =
              λ u i e. absurd (let z : None ≡ Some i = e in cc);
          accepted = λ c l h. absurd h;
          assumed = λ l h. absurd h;
          counted = λ i h. absurd h;
          once = tt;
        };
        few = omega (arith, n);
        shown = λ o x h. refl;
        plain = λ o. record { all = λ i h. absurd (omega (arith, h)); only = λ x i e. absurd (let z : None ≡ Some i = e in cc) };
        variables = λ i x e. absurd (let z : None ≡ Some x = e in cc);
        numbered = λ i x e. absurd (let z : None ≡ Some x = e in cc);
        logged = record {
          accepted = refl;
          assumed = refl;
          cores = tt;
          spoken = tt;
          left = λ i. (λ h. absurd h, λ (h, e). absurd (omega (arith, h)));
          stays = λ e. tt;
        };
        checked = λ held led. tt;
      },
    )
  where
    nothing : (l : Literal) → IsLiteralOf first_search l → ⊥
    nothing l (inl h) = h
    nothing l (inr (k, i, j)) = i

-- 2. A new variable.

pub least-free : (g : Summary) (s : State) (u : ℕ) → SpacesFit (spaces g) s → IsLeastUnmapped g.tables.users.forward u → IsLeastFree s.naming u
least-free g s u (w, k) (free, least) = (
  k.names.agree u ∙ chain-none (at g.tables.users.forward) w.identity u free,
  λ v h e. ⊎_elim
      (least v h)
      (λ (x, q). let r = k.names.live v x q in let z : None ≡ Some r.0 = sym e ∙ k.names.agree v
      ∙ chain-some (at g.tables.users.forward) w.identity v x q ∙ r.1 in cc)
      (is-some (at g.tables.users.forward v)),
)

-- a free name that is not above the watermark is named alone
pub named-alone : (u : ℕ) (m : Naming) → m.names u ≡ None → u ≤ m.watermark → name_one u m ≡ bring u m
named-alone u m free near =
    ⊎_elim
    (λ h. name-below u m h ∙ ap (λ o. bring_if_free u o m) free)
    (λ h. name-above u m h ∙ ap (λ n. bring_next n m) (let z : suc u - m.watermark ≡ suc zero = omega (arith, h, near) in z)
    ∙ ap (λ n. bring n m) (let z : m.watermark ≡ u = omega (arith, h, near) in z))
    (below-or u m.watermark)
  where
    below-or : (u n : ℕ) → (u < n) ⊎ (n ≤ u)
    below-or u n = grind arith

pub new-named : (g : Summary) (s : State) (new : Tables) (u x : ℕ) → SpacesFit (spaces g) s → IsLeastUnmapped g.tables.users.forward u →
    u ≤ length g.tables.users.forward → IsGiven g.tables new u x → FitWithNew (spaces (with_tables new g)) s (with_naming (name_one u s.naming) s)
new-named g s new u x f least b t =
    let m = f.1.watermark in
    subst (λ n. FitWithNew (spaces (with_tables new g)) s (with_naming n s))
    (sym (named-alone u s.naming (least-free g s u f least).0 (omega (arith, b, m)))) (given-spaces g s new u x f least.0 t)

-- 3. A verdict.

-- the state of a solver once the search found a verdict or none
abbrev pub after_steps : Summary → Option CheckerState → View → AssumptionParts → SatState → Summary
after_steps g checker t z after = record g { checker = checker; search = t; assumed = z; sat_state = after }

-- So many steps of the search with the lines found a verdict or none, left the view and some of the assumptions, and a core was
-- returned over names.
pub record StepsMade (g : Summary) (t : View) (y z : AssumptionParts) (after : SatState) (k : ℕ) (lines : List Line) : Type 0 where
  pub unknown : g.sat_state ≡ verdict.Unknown
  pub working : (l : Literal) → l ∈ g.assumed.working → HasUser g.tables (variable_of l)
  pub same_count : length t.values ≡ length g.search.values
  pub well : WellFormed t
  pub in_use : AreInUse (spaces g) (search_of t)
  pub steps : MakesSteps k (search_of g.search) (search_of t) (outcome_of t y.failed_core after) lines
  pub assumes : KeepsAssumptions (search_of g.search) (outcome_of t y.failed_core after) g.assumed y
  pub rest : z ≡ record y { user_core = z.user_core }
  pub named : after ≡ verdict.UnsatUnderAssumptions → z.user_core ≡ map
      (carry (chain (at g.tables.solvers.backward) (at g.tables.users.backward))) y.failed_core

-- the spaces that steps leave are those of the solver afterwards
left-spaces : (g : Summary) (checker : Option CheckerState) (s : State) (t : View) (y z : AssumptionParts)
    (after : SatState) {n : ℕ} {lines : List Line} (v : StepsMade g t y z after n lines) →
    SpacesFit (record (spaces g) {
      search = search_of t;
      outcome = outcome_of t y.failed_core after;
      model =
          (spaces (after_steps g checker t z after)).model;
      working = y.working;
      core = z.user_core;
      checker = checker;
    }) s →
    SpacesFit (spaces (after_steps g checker t z after)) s
left-spaces g checker s t y z after v f =
    let (w, k) = f in
    let p = record (spaces g) {
      search = search_of t;
      outcome = outcome_of t y.failed_core after;
      model =
          (spaces (after_steps g checker t z after)).model;
      working = y.working;
      core = z.user_core;
      checker = checker;
    } in
    spaces-same (record p { var_count = length t.values }) (spaces (after_steps g checker t z after)) s (record {
      maps = maps-alike (record p { var_count = length t.values }) (spaces (after_steps g checker t z after)) refl (λ x. refl) (λ a e x. refl);
      assumptions = ap (λ (x : AssumptionParts). x.user) v.rest ∙ v.assumes.user;
      core = refl;
      working = ap (λ (x : AssumptionParts). x.working) v.rest;
      search = refl;
      outcome = ap (λ (x : AssumptionParts). outcome_of t x.failed_core after) v.rest;
      var_count = refl;
      checker = refl;
    }) (w, recount w p (length g.search.values) (length t.values) s v.same_count k)

-- the names of the solver variables of a core, carried to identities, are what the core is carried to
module _ (g : Summary) (s : State) (w : Carrying) (k : Links w (spaces g) s)
    (names : (l : Literal) → l ∈ g.assumed.working → HasUser g.tables (variable_of l)) where
  -- where a solver variable leads
  core-leads : (m : Literal) → m ∈ g.assumed.working → (u i : ℕ)
      × (chain (at g.tables.solvers.backward) (at g.tables.users.backward) (variable_of m) ≡ Some u)
      × ((translation w (spaces g) s.logged).identity (variable_of m) ≡ Some i) × (s.naming.names u ≡ Some i)
  core-leads m a =
      let (i, t) = k.working.used m a in
      let (x, b, c) = chain-through (at g.tables.solvers.backward) w.identity (variable_of m) i t in
      let (u, e) = names m a in
      let (y, f, n) = chain-through (at g.tables.solvers.backward) (at g.tables.users.backward) (variable_of m) u e in
      let q : Some y ≡ Some x = sym f ∙ b in
      let same : y ≡ x = cc in
      let used = k.names.one_to_one.back u x (ap (at g.tables.users.backward) (sym same) ∙ n) in
      (u, i, e, t, k.names.agree u ∙ chain-some (at g.tables.users.forward) w.identity u x used ∙ c)

  names-carried : (core logged : List Literal) → ((l : Literal) → l ∈ core → l ∈ g.assumed.working) →
      logged ≡ map (carry (chain (at g.tables.solvers.backward) (at g.tables.users.backward))) core →
      ((l : Literal) → l ∈ logged → (i : ℕ) × (s.naming.names (variable_of l) ≡ Some i))
      × (map (carry s.naming.names) logged ≡ map (carry (translation w (spaces g) s.logged).identity) core)
  names-carried core logged part e = (
    λ l h.
        let (m, a, q) = map-∈ (carry (chain (at g.tables.solvers.backward) (at g.tables.users.backward))) l core (subst (λ xs. l ∈ xs) e h) in
        let (u, i, r, t, n) = core-leads m (part m a) in
        (i, ap s.naming.names (ap variable_of q ∙ carry-at (chain (at g.tables.solvers.backward) (at g.tables.users.backward)) m u r) ∙ n),
    ap (map (carry s.naming.names)) e ∙ map-map (carry s.naming.names) (carry (chain (at g.tables.solvers.backward) (at g.tables.users.backward)))
        (carry (translation w (spaces g) s.logged).identity) core (λ m a.
        let f = chain (at g.tables.solvers.backward) (at g.tables.users.backward) in
        let to = (translation w (spaces g) s.logged).identity in
        let (u, i, r, t, n) = core-leads m (part m a) in
        same-literal (carry s.naming.names (carry f m)) (carry to m)
        (carry-at s.naming.names (carry f m) i (ap s.naming.names (carry-at f m u r) ∙ n) ∙ sym (carry-at to m i t))
        (carry-sign s.naming.names (carry f m) ∙ carry-sign f m ∙ sym (carry-sign to m))),
  )

-- what the search is as steps begin
abbrev searching : TracerState → View → AssumptionParts → State → Summary
searching p search assumed s = record {
  tables = p.tables;
  opened = None;
  checker = p.proof.checker;
  search = search;
  assumed = assumed;
  sat_state =
      verdict.Unknown;
  words = 0;
  ledger = s.ledger;
}

-- what the checker took
checked-lines : (p q : TracerState) (es : List Entry) → IsCheckedIf p.proof.checker (logged_as (global_literal p.tables) (es ++ [])) q.proof.checker →
    IsCheckedIf p.proof.checker (logged_as (global_literal p.tables) es) q.proof.checker
checked-lines p q es c = subst (λ xs. IsCheckedIf p.proof.checker (logged_as (global_literal p.tables) xs) q.proof.checker) (append-nil es) c

-- what the state is then
pub comes-made : (at : Turn) (p q : TracerState) (search : View) (assumed : AssumptionParts) (s : State) (t : View) (y z : AssumptionParts) (after : SatState)
    (n : ℕ) (lines : List Line) → SpacesFit (spaces_of p.tables p.proof.checker search assumed verdict.Unknown) s → n ≤ 1 →
    StepsMade (searching p search assumed s) t y z after n lines →
    (after ≡ verdict.Unknown → LinesInSteps at.interval at.number n lines (search_of t)) →
    TakesStep TakesGlobally p lines (outcome_of t y.failed_core after) q →
    ComesTo at n s p.proof q.proof (spaces_of p.tables q.proof.checker t z after)
comes-made at p q search assumed s t y z verdict.Unknown n lines (w, k) one v how takes =
    let g = searching p search assumed s in
    let long = view-long t v.well in
    let logged = logged-with w (spaces g) s lines in
    let links = went-on w (spaces g) s k refl (search_of t) outcome.Unknown n lines v.steps long v.in_use assumed y refl v.assumes q.proof.checker
    (spaces (after_steps g q.proof.checker t z verdict.Unknown)).model z.user_core (checked-lines p q (written lines) takes.logged.checked) refl in
    record {
      verdict = Unknown;
      logged = logged;
      more = steps-log w (spaces g) s k refl (search_of t) outcome.Unknown n lines v.steps long v.in_use;
      begins = begins-nothing at.interval at.number (n - 1) s.logged _ (omega (arith, one));
      adds = λ e. steps-in-turn w (spaces g) s k refl (search_of t) outcome.Unknown n lines v.steps long v.in_use at.interval at.number refl (how refl);
      stayed = λ e. steps-stayed w (spaces g) s k refl (search_of t) outcome.Unknown n lines v.steps long v.in_use;
      ends = steps-derived w (spaces g) s k refl (search_of t) outcome.Unknown n lines v.steps long v.in_use;
      proof = proof-logged p q (written lines ++ []) s.variables s.logged logged takes
          (steps-logged-as w (spaces g) s k refl (search_of t) outcome.Unknown n lines v.steps long v.in_use);
      fits = left-spaces g q.proof.checker (with_entries logged (with_verdict Unknown s)) t y z verdict.Unknown v (w, links);
    }
comes-made at p q search assumed s t y z verdict.Sat n lines (w, k) one v how takes =
    let g = searching p search assumed s in
    let long = view-long t v.well in
    let logged = logged-with w (spaces g) s lines in
    let a = found w (spaces g) s k refl (search_of t) (assignment_of t) n lines v.steps long v.in_use in
    let links = sat-found w (spaces g) s k refl (search_of t) (assignment_of t) n lines v.steps long v.in_use assumed y refl v.assumes z.user_core
    q.proof.checker (checked-lines p q (written lines) takes.logged.checked) in
    record {
      verdict = Sat a;
      logged = logged;
      more = steps-log w (spaces g) s k refl (search_of t) (outcome.Sat (assignment_of t)) n lines v.steps long v.in_use;
      adds = λ e. absurd (let z : Sat a ≡ Unknown = e in cc);
      stayed = λ e. absurd (let z : Sat a ≡ Unknown = e in cc);
      begins = begins-nothing at.interval at.number (n - 1) s.logged _ (omega (arith, one));
      ends = steps-derived w (spaces g) s k refl (search_of t) (outcome.Sat (assignment_of t)) n lines v.steps long v.in_use;
      proof = proof-logged p q (written lines ++ []) s.variables s.logged logged takes
          (steps-logged-as w (spaces g) s k refl (search_of t) (outcome.Sat (assignment_of t)) n lines v.steps long v.in_use);
      fits = left-spaces g q.proof.checker (with_entries logged (with_verdict (Sat a) s)) t y z verdict.Sat v (w, links);
    }
comes-made at p q search assumed s t y z verdict.Unsat n lines (w, k) one v how takes =
    let g = searching p search assumed s in
    let long = view-long t v.well in
    let logged = logged-with w (spaces g) s lines in
    let links = unsat-found w (spaces g) s k refl (search_of t) outcome.Unsat n lines v.steps long v.in_use assumed y refl v.assumes q.proof.checker
    (spaces (after_steps g q.proof.checker t z verdict.Unsat)).model z.user_core (checked-lines p q (written lines) takes.logged.checked) refl in
    record {
      verdict = Unsat;
      logged = logged;
      more = steps-log w (spaces g) s k refl (search_of t) outcome.Unsat n lines v.steps long v.in_use;
      adds = λ e. absurd (let z : Unsat ≡ Unknown = e in cc);
      stayed = λ e. absurd (let z : Unsat ≡ Unknown = e in cc);
      begins = begins-nothing at.interval at.number (n - 1) s.logged _ (omega (arith, one));
      ends = steps-derived w (spaces g) s k refl (search_of t) outcome.Unsat n lines v.steps long v.in_use;
      proof = proof-logged p q (written lines ++ []) s.variables s.logged logged takes
          (steps-logged-as w (spaces g) s k refl (search_of t) outcome.Unsat n lines v.steps long v.in_use);
      fits = left-spaces g q.proof.checker (with_entries logged (with_verdict Unsat s)) t y z verdict.Unsat v (w, links);
    }
comes-made at p q search assumed s t y z verdict.UnsatUnderAssumptions n lines (w, k) one v how takes =
    let g = searching p search assumed s in
    let long = view-long t v.well in
    let (named, same) = names-carried g s w k v.working y.failed_core z.user_core (v.assumes.core y.failed_core refl).0 (v.named refl) in
    let core = map (carry s.naming.names) z.user_core in
    let logged = logged-with w (spaces g) s lines ++ Fails core ∷ [] in
    let links = core-found w (spaces g) s k refl (search_of t) (outcome.UnsatUnder y.failed_core) n lines v.steps long v.in_use assumed y refl
    v.assumes q.proof.checker (spaces (after_steps g q.proof.checker t z verdict.UnsatUnderAssumptions)).model y.failed_core z.user_core
    takes.logged.checked refl named same in
    record {
      verdict = UnsatUnderAssumptions core;
      logged = logged;
      more = core-logs w (spaces g) s k refl (search_of t) (outcome.UnsatUnder y.failed_core) n lines v.steps long v.in_use assumed y refl
          v.assumes q.proof.checker y.failed_core z.user_core refl same;
      adds = λ e. absurd (let z : UnsatUnderAssumptions core ≡ Unknown = e in cc);
      stayed = λ e. absurd (let z : UnsatUnderAssumptions core ≡ Unknown = e in cc);
      begins = begins-nothing at.interval at.number (n - 1) s.logged _ (omega (arith, one));
      ends = core-ends w (spaces g) s k refl (search_of t) (outcome.UnsatUnder y.failed_core) n lines v.steps long v.in_use assumed y refl
          v.assumes q.proof.checker y.failed_core z.user_core refl same;
      proof = proof-logged p q (written lines ++ Fails y.failed_core ∷ []) s.variables s.logged logged takes
          (core-logged-as w (spaces g) s k refl (search_of t) (outcome.UnsatUnder y.failed_core) n lines v.steps long v.in_use assumed y refl
          v.assumes q.proof.checker y.failed_core z.user_core refl same);
      fits = left-spaces g q.proof.checker (with_entries logged (with_verdict (UnsatUnderAssumptions core) s)) t y z verdict.UnsatUnderAssumptions v (w, links);
    }

-- few steps were made since the last change
pub counted-few : (g : Summary) (s : State) → Represents g s → g.ledger.valid ≡ true →
    ((n : ℕ) → length g.search.values ≤ n → AreFew n g.ledger.since) → AreFew (length s.counted) s.ledger.since
counted-few g s st v few = subst (AreFew (length s.counted)) (sym (ap (λ (l : Ledger). l.since) st.ledger))
    (few (length s.counted) (st.fits v).1.few)

-- how the steps are counted, for the state
pub counted-call : (g : Summary) (s : State) (max_steps after : ℕ) (a r : Result Bool SolverError) → Represents g s → g.ledger.valid ≡ true →
    max_steps ≡ g.ledger.settings.max_steps → a ≡ r →
    ((n : ℕ) → length g.search.values ≤ n → CountsSteps n max_steps g.ledger.since g.ledger.steps after a) →
    CountsSteps (length s.counted) s.ledger.settings.max_steps s.ledger.since s.ledger.steps after r
counted-call g s max_steps after a r st v m e c =
    let k = c (length s.counted) (st.fits v).1.few in
    let o = sym (ap (λ (l : Ledger). l.settings.max_steps) st.ledger) in
    subst (λ x. CountsSteps (length s.counted) s.ledger.settings.max_steps x s.ledger.steps after r) (sym (ap (λ (l : Ledger). l.since) st.ledger))
    (subst (λ x. CountsSteps (length s.counted) s.ledger.settings.max_steps g.ledger.since x after r) (sym (ap (λ (l : Ledger). l.steps) st.ledger))
    (subst (λ x. CountsSteps (length s.counted) x g.ledger.since g.ledger.steps after r) (m ∙ o)
    (subst (CountsSteps (length s.counted) max_steps g.ledger.since g.ledger.steps after) e k)))

-- before that the verdict was unknown
pub was-unknown : (g : Summary) (s : State) → Represents g s → g.ledger.valid ≡ true → g.sat_state ≡ verdict.Unknown → s.verdict ≡ Unknown
was-unknown g s st v e = let (w, k) = st.fits v in is-unknown w.identity (spaces g).model s.verdict
    (subst (λ y. VerdictFits w.identity (spaces g).model y s.verdict) (ap (outcome_of g.search g.assumed.failed_core) e) k.verdict)

-- 4. The model.

pub tables-listed : (g : Summary) (k u : ℕ) → list_tables g.tables g.search.values u k ≡ list_globals (spaces g) u k
tables-listed g zero u = refl
tables-listed g (suc k) u = ap (put_name u (at g.tables.users.forward u) (spaces g).model) (tables-listed g k (suc u))

-- where a model was found it is returned, and can be completed
pub sat-model : (g : Summary) (s : State) → Represents g s → g.ledger.valid ≡ true → g.sat_state ≡ verdict.Sat →
    (model_of s.naming s.verdict ≡ Some (list_tables g.tables g.search.values 0 (length g.tables.users.forward)))
    × IsCompletable s.naming s.clauses s.assumptions s.counted (list_tables g.tables g.search.values 0 (length g.tables.users.forward))
sat-model g s st v e =
    let (w, k) = st.fits v in
    let (a, b) = logged w (spaces g) s (assignment_of g.search) k (ap (outcome_of g.search g.assumed.failed_core) e) in
    let q = sym (tables-listed g (length g.tables.users.forward) 0) in
    (a ∙ ap Some q, subst (IsCompletable s.naming s.clauses s.assumptions s.counted) q b)

-- one more name
put-append : (u : ℕ) (o : Option ℕ) (m : Assignment) (xs ys : List Literal) → put_name u o m (xs ++ ys) ≡ put_name u o m xs ++ ys
put-append u None m xs ys = refl
put-append u (Some x) m xs ys = refl

pub tables-push : (t : Tables) (vs : List (Option Bool)) (m : Assignment) →
    m ≡ (λ x. value_or (data_at t.kept x).unit (λ v. is_true_value (get_or vs v None)) (at t.solvers.forward x)) → (k u : ℕ) →
    list_tables t vs u (suc k) ≡ list_tables t vs u k ++ put_name (u + k) (at t.users.forward (u + k)) m []
tables-push t vs m e zero u = ap (λ f. put_name u (at t.users.forward u) f []) (sym e)
    ∙ ap (λ n. put_name n (at t.users.forward n) m []) (let z : u ≡ u + 0 = omega arith in z)
tables-push t vs m e (suc k) u =
    let f : Assignment = λ x. value_or (data_at t.kept x).unit (λ v. is_true_value (get_or vs v None)) (at t.solvers.forward x) in
    let z : suc u + k ≡ u + suc k = omega arith in
    ap (put_name u (at t.users.forward u) f) (tables-push t vs m e k (suc u))
    ∙ put-append u (at t.users.forward u) f (list_tables t vs (suc u) k) (put_name (suc u + k) (at t.users.forward (suc u + k)) m [])
    ∙ ap (λ n. list_tables t vs u (suc k) ++ put_name n (at t.users.forward n) m []) z

-- 5. What a verdict says.

pub sat-right : (g : Summary) (s : State) → Represents g s → g.ledger.valid ≡ true → g.sat_state ≡ verdict.Sat → IsSatisfiableWith s.clauses s.assumptions
sat-right g s st valid e =
    let (w, k) = st.fits valid in
    let (a, v, f) = is-sat w.identity (spaces g).model (assignment_of g.search) s.verdict
    (subst (λ y. VerdictFits w.identity (spaces g).model y s.verdict) (ap (outcome_of g.search g.assumed.failed_core) e) k.verdict) in
    let r = subst (IsRight s.clauses s.assumptions s.counted) v k.right in
    (a, r.0, r.1)

-- a list that is refused, where there is one
pub logs-error : {A : Type 0} (may : Option (List Literal) → Type 0) (s : State) (list : List Literal) (r : Result (Option (Vec Literal A)) AllocError) →
    IsErr r → IsValid s → may (Some list) → ReturnsList may s (returned_list r) s
logs-error may s list (Ok m) h v a = absurd (let z : false ≡ true = h in cc)
logs-error may s list (Err e) h v a = (v, (list, a), refl)

-- 6. The core.

-- what the solver's verdict answers is what the state's does
pub answers-fit : (id : ℕ → Option ℕ) (m : ℕ → Bool) (t : View) (failed : List Literal) (sat : SatState) (v : Verdict) →
    VerdictFits id m (outcome_of t failed sat) v → answer_of v ≡ answer_at sat
answers-fit id m t failed verdict.Unknown Unknown f = refl
answers-fit id m t failed verdict.Sat (Sat a) f = refl
answers-fit id m t failed verdict.Unsat Unsat f = refl
answers-fit id m t failed verdict.UnsatUnderAssumptions (UnsatUnderAssumptions core) f = refl
answers-fit id m t failed sat v f = absurd f

pub answers-alike : (g : Summary) (s : State) → Represents g s → g.ledger.valid ≡ true → answer_of s.verdict ≡ answer_at g.sat_state
answers-alike g s st v = let (w, k) = st.fits v in answers-fit w.identity (spaces g).model g.search g.assumed.failed_core g.sat_state s.verdict k.verdict

-- under assumptions that failed the core is logged that is kept over names
pub core-returned : (g : Summary) (s : State) → Represents g s → g.ledger.valid ≡ true → g.sat_state ≡ verdict.UnsatUnderAssumptions →
    IsReturnedCore s (Some g.assumed.user_core)
core-returned g s st v e =
    let (w, k) = st.fits v in
    let (core, q) = is-core w.identity (spaces g).model g.assumed.failed_core s.verdict
    (subst (λ y. VerdictFits w.identity (spaces g).model y s.verdict) (ap (outcome_of g.search g.assumed.failed_core) e) k.verdict) in
    let (named, same) = subst (CoreFits s.naming.names g.assumed.user_core) q k.core in
    (named, ap core_of q ∙ ap Some same)

pub unsat-known : (g : Summary) (s : State) → Represents g s → g.ledger.valid ≡ true → g.sat_state ≡ verdict.Unsat → s.verdict ≡ Unsat
unsat-known g s st v e =
    let (w, k) = st.fits v in
    is-unsat w.identity (spaces g).model s.verdict
    (subst (λ y. VerdictFits w.identity (spaces g).model y s.verdict) (ap (outcome_of g.search g.assumed.failed_core) e) k.verdict)

-- 7. What is logged where the verdict is known.

-- under Unsat what was logged leads to a conflict
pub unsat-logged : (id : ℕ → Option ℕ) (m : ℕ → Bool) (r : Translation) (fixed : List Literal) (share : List Clause) (o : SearchOutcome) (x : Verdict) →
    x ≡ Unsat → VerdictFits id m o x → HeldFits r fixed share (without_core o) → LogsConflict r.logged
unsat-logged id m r fixed share outcome.Unsat x e f h = h
unsat-logged id m r fixed share outcome.Unknown x e f h = absurd (subst (VerdictFits id m outcome.Unknown) e f)
unsat-logged id m r fixed share (outcome.Sat found) x e f h = absurd (subst (VerdictFits id m (outcome.Sat found)) e f)
unsat-logged id m r fixed share (outcome.UnsatUnder core) x e f h = absurd (subst (VerdictFits id m (outcome.UnsatUnder core)) e f)

pub logged-refuted : (g : Summary) (s : State) → Represents g s → g.ledger.valid ≡ true → s.verdict ≡ Unsat → LogsConflict s.logged
logged-refuted g s st v e = let (w, k) = st.fits v in unsat-logged w.identity (spaces g).model (translation w (spaces g) s.logged)
    (spaces g).search.fixed k.holds.held (spaces g).outcome s.verdict e k.verdict k.holds.logged

-- a core is not empty
pub core-not-empty : (id : ℕ → Option ℕ) (m : ℕ → Bool) (o : SearchOutcome) (x : Verdict) (list : List Literal) → x ≡ UnsatUnderAssumptions list →
    VerdictFits id m o x → list ≢ []
core-not-empty id m outcome.Unknown x list e f = absurd (subst (VerdictFits id m outcome.Unknown) e f)
core-not-empty id m (outcome.Sat found) x list e f = absurd (subst (VerdictFits id m (outcome.Sat found)) e f)
core-not-empty id m outcome.Unsat x list e f = absurd (subst (VerdictFits id m outcome.Unsat) e f)
core-not-empty id m (outcome.UnsatUnder found) x list e f = subst (VerdictFits id m (outcome.UnsatUnder found)) e f

pub known-logged : (g : Summary) (s : State) (b : Bool) → Represents g s → g.ledger.valid ≡ true → answer_at g.sat_state ≡ Some b → ReturnsVerdict by_state s b s
known-logged g s b st v e =
    let a = answers-alike g s st v ∙ e in
    record {
      valid = ap (λ (l : Ledger). l.valid) st.ledger ∙ v;
      steps = Decided (inl (λ u. let z : None ≡ Some b = ap answer_of (sym u) ∙ a in cc)) refl (λ _. refl);
      logged = let z : 0 ≡ s.ledger.steps - s.ledger.steps = omega arith in subst (λ n. LogsMore n s.logged s.logged) z (logs-nothing s.logged);
      adds = begins-nothing s.ledger.settings.reduce_locals_interval s.ledger.steps (s.ledger.steps - s.ledger.steps - 1) s.logged _ (omega arith);
      right = record {
        known = λ n. refl;
        answer = a;
        right = (st.fits v).1.right;
        ends = λ u. absurd (let z : None ≡ Some b = ap answer_of (sym u) ∙ a in cc);
        refuted = logged-refuted g s st v;
        core = λ list h. let (w, k) = st.fits v in core-not-empty w.identity (spaces g).model (spaces g).outcome s.verdict list h k.verdict;
      };
      rest = like-still s;
    }

pub false-right : (g : Summary) (s : State) → Represents g s → g.ledger.valid ≡ true → answer_at g.sat_state ≡ Some false →
    IsSatisfiableWith s.clauses s.assumptions → ⊥
false-right g s st v e = right-false s.clauses s.assumptions s.counted s.verdict (answers-alike g s st v ∙ e) (st.fits v).1.right

pub false-core : (g : Summary) (s : State) → Represents g s → g.ledger.valid ≡ true → answer_at g.sat_state ≡ Some false → (core : List Literal)
    × (core_of s.verdict ≡ Some core) × IsFailedCore s.clauses s.assumptions core
false-core g s st v e = right-core s.clauses s.assumptions s.counted s.verdict (answers-alike g s st v ∙ e) (st.fits v).1.right

pub answered-true : (x : SatState) → answer_at x ≡ Some true → x ≡ verdict.Sat
answered-true verdict.Unknown e = absurd cc
answered-true verdict.Sat e = refl
answered-true verdict.Unsat e = absurd (let z : false ≡ true = cc in cc)
answered-true verdict.UnsatUnderAssumptions e = absurd (let z : false ≡ true = cc in cc)

pub answered-none : (x : SatState) → answer_at x ≡ None → x ≡ verdict.Unknown
answered-none verdict.Unknown e = refl
answered-none verdict.Sat e = absurd cc
answered-none verdict.Unsat e = absurd cc
answered-none verdict.UnsatUnderAssumptions e = absurd cc

pub answered-false : (x : SatState) → (x ≡ verdict.Unsat) ⊎ (x ≡ verdict.UnsatUnderAssumptions) → answer_at x ≡ Some false
answered-false x (inl e) = ap answer_at e
answered-false x (inr e) = ap answer_at e

-- a copy of the core that is refused
pub logged-refused-core : {A : Type 0} (s t : State) (core : List Literal) (r : Result (Option (Vec Literal A)) AllocError) → IsErr r →
    ReturnsList (by_state.core s) s (Ok (Some core)) t → ReturnsList (by_state.core s) s (returned_list r) s
logged-refused-core s t core r h (inl (v, x), same) = logs-error (by_state.core s) s core r h v x
logged-refused-core s t core r h (inr (v, x), same) = absurd cc
