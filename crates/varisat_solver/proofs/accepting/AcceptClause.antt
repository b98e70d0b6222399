-- A clause is accepted: its names come into use, their variables take solver variables, and it is loaded.
use Rattle.std.proofs.Common.{◌≡◌, ◌≢◌, ℕ, zero, suc, ◌+◌, ◌-◌, ◌<◌, ◌≤◌, nat_lt, if◌then◌else◌, Bool, true, false, Option, Some, None, List, [], ◌∷◌, ◌++◌, ◌⊎◌, inl, inr, ⊎_elim, length, map, sym, ap, ap₂, ◌∙◌, subst, refl, arith, rules}
use Rattle.std.proofs.lemmas.Bool.{lt-ltb, le-ltb}
use Rattle.varisat_theory.specs.promises.Membership.{◌∈◌}
use Rattle.varisat_theory.specs.promises.Literals.{Literal, Clause, Assignment, variable_of}
use Rattle.varisat_theory.specs.promises.Searches.{IsLiteralOf}
use Rattle.varisat_theory.specs.promises.Derivations.{Line}
use Rattle.varisat_theory.specs.inside.Outcomes.{Loads}
use Rattle.varisat_theory.specs.inside.Outcomes as outcome
use Rattle.varisat_theory.proofs.journals.Renaming.{map-∈}
use Rattle.varisat_theory.proofs.clauses.Members.{∈-append_left}
use Rattle.varisat_theory.proofs.clauses.Sound.{core_stays}
use Rattle.varisat_prop.specs.View.{View, WellFormed}
use Rattle.varisat_names.specs.promises.VarBiMap.{BiMap}
use Rattle.varisat_search.specs.declared.state.SatState.{SatState}
use Rattle.varisat_search.specs.declared.state.SatState.TheVariants as verdict
use Rattle.varisat_search.specs.Seen.{search_of, outcome_of}
use Rattle.varisat_search.specs.AssumptionParts.{AssumptionParts}
use Rattle.varisat_search.specs.Loading.{loaded_outcome}
use Rattle.varisat_search.specs.Steps.{assignment_of, reopened_state}
use Rattle.varisat_names.specs.promises.Maps.{chain, updated}
use Rattle.varisat_names.specs.promises.VarMap.{at}
use Rattle.varisat_names.specs.promises.VarData.{fresh, data_at}
use Rattle.varisat_names.specs.promises.Variables.{Tables, IsGiven, AreNextGiven, IsNamed, InUse, Free, Above, IsTaken}
use Rattle.varisat_names.proofs.Maps.{updated-at, updated-other, updated-all, chain-some, chain-none, is-some}
use Rattle.varisat_names.proofs.VarMap.{at-inside}
use Rattle.varisat_prop.proofs.pairs.DistinctPlaces.{distinct-below}
use Rattle.varisat_solver.specs.promises.States.{State, with_variables, with_words, Ledger, join_counted, Verdict, Unknown, Sat, Unsat, UnsatUnderAssumptions, IsRight}
use Rattle.varisat_solver.specs.promises.Names.{Naming, bring, bring_next, bring_if_free, name_one, through_names}
use Rattle.varisat_solver.specs.promises.Calls.{with_naming, VerdictAfter, Refuted, Reopened, append_clause, reopened_verdict, with_verdict}
use Rattle.varisat_tracer.specs.promises.Carried.{carry, logged_as}
use Rattle.varisat_solver.specs.inside.Carried.{value_or}
use Rattle.varisat_solver.specs.inside.Spaces.{Spaces, Carrying, translation, SearchHolds, CoreFits, without_core, VerdictFits, Links, SpacesFit, FitWithNew}
use Rattle.varisat_solver.specs.promises.Usage.{IsWide}
use Rattle.varisat_theory.specs.promises.Journals.{Entry, Accepts, written}
use Rattle.varisat_proof.specs.promises.Calls.{CheckerState}
use Rattle.varisat_proof.specs.promises.Proving.{IsCheckedIf}
use Rattle.varisat_tracer.specs.inside.Tracing.{global_literal}
use Rattle.varisat_solver.specs.promises.OpenProofs.{OpenProof}
use Rattle.varisat_solver.specs.promises.Journals.{with_entries, LogsStaying}
use Rattle.varisat_solver.specs.promises.Summaries.{Summary}
use Rattle.varisat_solver.specs.inside.Representations.{spaces, spaces_of, Represents}
use Rattle.varisat_solver.specs.inside.Accepting.{HasSolver, AreJoined}
use Rattle.varisat_solver.proofs.calls.SpacesAgree.{give, take_solver, count, solver_literal, accept}
use Rattle.varisat_solver.proofs.modes.VariableMoves.{given-near}
use Rattle.varisat_solver.proofs.accepting.NewNames.{given}
use Rattle.varisat_solver.proofs.entries.LoggedProofs.{AreLoggedAs}
use Rattle.varisat_solver.proofs.calls.Counted.{counted, join-more, join-only, join-once}
use Rattle.varisat_solver.proofs.accepting.AcceptSolverVariables.{taken}
use Rattle.varisat_solver.proofs.steps.SearchLinks.{relinked, view-long}
use Rattle.varisat_solver.proofs.calls.ModelsFit.{is-core}
use Rattle.varisat_solver.proofs.accepting.AcceptLoad.{loaded}
use Rattle.varisat_solver.proofs.steps.SolveVerdict.{forgotten, core-known, model-same, spaces-same, maps-same}
use Rattle.varisat_solver.proofs.calls.Carried.{carry-at}

abbrev pub with_tables : Tables → Summary → Summary
with_tables t g = record g { tables = t }

-- 1. Names.

pub given-spaces : (g : Summary) (s : State) (new : Tables) (u x : ℕ) → SpacesFit (spaces g) s → at g.tables.users.forward u ≡ None →
    IsGiven g.tables new u x → FitWithNew (spaces (with_tables new g)) s (with_naming (bring u s.naming) s)
given-spaces g s new u x (w, k) free n =
    let made = s.naming.made in
    let variables = updated s.variables made (Some x) in
    let p = spaces g in
    let q = spaces (with_tables new g) in
    let f = assignment_of g.search in
    let unsolved : at g.tables.solvers.forward x ≡ None = ⊎_elim (λ e. e)
    (λ (v, e). let (i, r, m) = k.solvers.live v x (k.solvers.one_to_one.there x v e) in let z : true ≡ false = sym n.unused.0
    ∙ k.identities.live x i r in absurd cc) (is-some (at g.tables.solvers.forward x)) in
    let solver = λ (y : ℕ). ap (λ m. at m.forward y) n.solvers in
    let fits = maps-same (give u x p) q (with_variables variables (with_naming (bring u s.naming) s)) (record {
      global_from_user = n.users.forward.at_each;
      user_from_global = n.users.backward.at_each;
      watermark = n.users.forward.watermark;
      globals = n.kept.count;
      solver_from_global = solver;
      global_from_solver = λ v. ap (λ m. at m.backward v) n.solvers;
      kept = n.kept.at_each;
      model = λ a e y. updated-all (λ y b. value_or (data_at new.kept y).unit f (at new.solvers.forward y) ≡ b) p.model x false
          (ap (λ d. value_or d.unit f (at new.solvers.forward x)) (n.kept.at_each x ∙ updated-at (data_at g.tables.kept) x fresh)
          ∙ ap (value_or None f) (solver x ∙ unsolved))
          y
          (λ m. ap (λ d. value_or d.unit f (at new.solvers.forward y)) (n.kept.at_each y ∙ updated-other (data_at g.tables.kept) x fresh y m)
          ∙ ap (value_or (data_at g.tables.kept y).unit f) (solver y));
    }) refl (given w p s u x k free n.unused.0 n.unused.1 (given-near g.tables new u x n)) in
    (variables, λ i b. updated-other s.variables made (Some x) i (λ e. absurd (omega (arith, b, e))), fits)

pub next-spaces : (k : ℕ) (g : Summary) (s : State) (new : Tables) → SpacesFit (spaces g) s → AreNextGiven k g.tables new →
    FitWithNew (spaces (with_tables new g)) s (with_naming (bring_next k s.naming) s)
next-spaces zero g s new f e = (s.variables, λ i b. refl, subst (λ t. SpacesFit (spaces (with_tables t g)) s) (sym e) f)
next-spaces (suc k) g s new f (mid, x, n, rest) =
    let u = f.1.watermark in
    let (first, keep, fits) = subst (λ v. FitWithNew (spaces (with_tables mid g)) s (with_naming (bring v s.naming) s)) (sym u)
    (given-spaces g s mid (length g.tables.users.forward) x f (f.1.names.free (length g.tables.users.forward) (omega (arith, u))) n) in
    let (last, further, all) = next-spaces k (with_tables mid g)
    (with_variables first (with_naming (bring s.naming.watermark s.naming) s)) new fits rest in
    (last, λ i b. further i (omega (arith, b)) ∙ keep i b, all)

-- how a name is named, below the watermark
pub name-below : (u : ℕ) (m : Naming) → u < m.watermark → name_one u m ≡ bring_if_free u (m.names u) m
name-below u m h = ap (λ c. if c then bring_if_free u (m.names u) m else bring_next (suc u - m.watermark) m) (lt-ltb u m.watermark h)

-- and from it on
pub name-above : (u : ℕ) (m : Naming) → m.watermark ≤ u → name_one u m ≡ bring_next (suc u - m.watermark) m
name-above u m h = ap (λ c. if c then bring_if_free u (m.names u) m else bring_next (suc u - m.watermark) m) (le-ltb u m.watermark h)

-- a name is named: it was in use, or comes into use alone, or with those from the watermark up to it
pub named-one : (g : Summary) (s : State) (new : Tables) (u : ℕ) → SpacesFit (spaces g) s → IsNamed u g.tables new →
    FitWithNew (spaces (with_tables new g)) s (with_naming (name_one u s.naming) s)
named-one g s new u f (InUse x e same) =
    let (w, k) = f in
    let m = k.watermark in
    let inside = at-inside g.tables.users.forward u x e in
    let (i, r) = k.names.live u x e in
    let named : s.naming.names u ≡ Some i = k.names.agree u ∙ chain-some (at g.tables.users.forward) w.identity u x e ∙ r in
    let stays = name-below u s.naming (omega (arith, inside, m)) ∙ ap (λ o. bring_if_free u o s.naming) named in
    subst (λ n. FitWithNew (spaces (with_tables new g)) s (with_naming n s)) (sym stays)
    (s.variables, λ i b. refl, subst (λ t. SpacesFit (spaces (with_tables t g)) s) (sym same) f)
named-one g s new u f (Free x b free n) =
    let (w, k) = f in
    let m = k.watermark in
    let none : s.naming.names u ≡ None = k.names.agree u ∙ chain-none (at g.tables.users.forward) w.identity u free in
    let brings = name-below u s.naming (omega (arith, b, m)) ∙ ap (λ o. bring_if_free u o s.naming) none in
    subst (λ n. FitWithNew (spaces (with_tables new g)) s (with_naming n s)) (sym brings) (given-spaces g s new u x f free n)
named-one g s new u f (Above b e) =
    let m = f.1.watermark in
    let z : u + 1 - length g.tables.users.forward ≡ suc u - s.naming.watermark = omega (arith, m) in
    subst (λ n. FitWithNew (spaces (with_tables new g)) s (with_naming n s)) (sym (name-above u s.naming (omega (arith, b, m))))
    (next-spaces (suc u - s.naming.watermark) g s new f (subst (λ c. AreNextGiven c g.tables new) z e))

-- 2. Solver variables, where no model is returned.

abbrev pub HasNoModel : Summary → Type 0
HasNoModel g = (a : Assignment) → (spaces g).outcome ≡ outcome.Sat a → ⊥

pub taken-one : (g : Summary) (s : State) (new : Tables) (x v i : ℕ) → (w : Carrying) → Links w (spaces g) s → HasNoModel g →
    (data_at g.tables.kept x).unit ≡ None → w.identity x ≡ Some i → i ∈ s.counted → at g.tables.solvers.forward x ≡ None →
    IsTaken g.tables new x v → SpacesFit (spaces (with_tables new g)) s
taken-one g s new x v i w k none n is spoken free t =
    maps-same (take_solver x v (spaces g)) (spaces (with_tables new g)) s (record {
      global_from_user = λ u. ap (λ m. at m.forward u) t.users;
      user_from_global = λ y. ap (λ m. at m.backward y) t.users;
      watermark = ap (λ m. length m.forward) t.users;
      globals = let c = ap (λ m. length m) t.kept in omega (arith, c);
      solver_from_global = t.solvers.forward.at_each;
      global_from_solver = t.solvers.backward.at_each;
      kept = λ y. ap (λ m. data_at m y) t.kept;
      model = λ a e y. absurd (none a e);
    }) refl (w, taken w (spaces g) s x i v k is spoken free t.least.0 (inl n))

-- 3. Another view of the same search.

pub outcome-alike : (s t : View) (core : List Literal) (sat : SatState) → ((a : Assignment) → outcome_of s core sat ≡ outcome.Sat a → ⊥) →
    outcome_of t core sat ≡ outcome_of s core sat
outcome-alike s t core verdict.Unknown n = refl
outcome-alike s t core verdict.Sat n = absurd (n (assignment_of s) refl)
outcome-alike s t core verdict.Unsat n = refl
outcome-alike s t core verdict.UnsatUnderAssumptions n = refl

pub raised : (g : Summary) (s : State) (t : View) → SpacesFit (spaces g) s → HasNoModel g → search_of t ≡ search_of g.search →
    length t.values ≤ length s.counted → SpacesFit (spaces (record g { search = t })) s
raised g s t (w, k) none seen few =
    let p = spaces g in
    let q = spaces (record g { search = t }) in
    let o = outcome-alike g.search t g.assumed.failed_core g.sat_state none in (
      w,
      relinked w p q s s k (record {
        solvers = k.solvers;
        holds = subst (λ y. SearchHolds s.clauses (translation w p s.logged) (search_of t) (without_core y)) (sym o)
            (subst (λ y. SearchHolds s.clauses (translation w p s.logged) y (without_core p.outcome)) (sym seen) k.holds);
        assumptions = k.assumptions;
        working = k.working;
        verdict = subst (λ y. VerdictFits w.identity q.model y s.verdict) (sym o)
            (model-same w.identity p.model q.model p.outcome s.verdict (λ a e. absurd (none a e)) k.verdict);
        core = k.core;
        right = k.right;
        few = few;
        logged = k.logged;
        checked = k.checked;
      }),
    )

-- 4. What a clause and a list of assumptions begin with.

-- the flags, the open proof and the size of the clause store do not matter
links-free : (w : Carrying) (p : Spaces) (s : State) (l : Ledger) (proof : Option OpenProof) (words : ℕ) → Links w p s →
    Links w p (record s { ledger = l; proof = proof; words = words })
links-free w p s l proof words k =
    relinked w p p s (record s { ledger = l; proof = proof; words = words }) k
    (record {
      solvers = k.solvers;
      holds = k.holds;
      assumptions = k.assumptions;
      working = k.working;
      verdict = k.verdict;
      core = k.core;
      right = k.right;
      few = k.few;
      logged = k.logged;
      checked = k.checked;
    })

pub ledger-free : (w : Carrying) (p : Spaces) (s : State) (l : Ledger) → Links w p s → Links w p (record s { ledger = l })
ledger-free w p s l k = links-free w p s l s.proof s.words k

pub proof-free : (w : Carrying) (p : Spaces) (s : State) (proof : Option OpenProof) → Links w p s → Links w p (record s { proof = proof })
proof-free w p s proof k = links-free w p s s.ledger proof s.words k

pub words-free : (w : Carrying) (p : Spaces) (s : State) (words : ℕ) → Links w p s → Links w p (with_words words s)
words-free w p s words k = links-free w p s s.ledger s.proof words k

-- the search has no more variables than identities were made
pub few-made : (w : Carrying) (p : Spaces) (s : State) → Links w p s → p.var_count ≤ s.naming.made
few-made w p s k =
    let a = k.few in
    let b = distinct-below s.counted s.naming.made k.well_formed.once k.well_formed.counted in
    omega (arith, a, b)

-- the names of a clause that are in use are counted with it
pub counted-spaces : (g : Summary) (s : State) (d : Clause) → SpacesFit (spaces g) s →
    ((l : Literal) → l ∈ d → (x : ℕ) × (at g.tables.users.forward (variable_of l) ≡ Some x)) →
    SpacesFit (spaces g) (count (join_counted s.counted (map variable_of (map (through_names s.naming) d))) s)
counted-spaces g s d (w, k) named =
    let is = map variable_of (map (through_names s.naming) d) in (
      w,
      counted w (spaces g) s (join_counted s.counted is) k (join-more is s.counted)
          (λ i h. ⊎_elim (k.well_formed.counted i) (λ a.
          let (l, b, e) = map-∈ variable_of i (map (through_names s.naming) d) a in
          let (m, j, f) = map-∈ (through_names s.naming) l d b in
          let (x, y) = named m j in
          let r = k.names.live (variable_of m) x y in
          let z = k.names.agree (variable_of m) ∙ chain-some (at g.tables.users.forward) w.identity (variable_of m) x y ∙ r.1 in
          subst (λ v. v < s.naming.made) (sym (e ∙ ap variable_of f ∙ carry-at s.naming.names m r.0 z)) (k.identities.below x r.0 r.1))
          (join-only is s.counted i h))
          (join-once is s.counted k.well_formed.once),
    )

-- 5. The clause.

-- under Unsat alone the state's verdict is Unsat
fits-unsat : (search : View) (core : List Literal) (sat : SatState) (id : ℕ → Option ℕ) (m : ℕ → Bool) →
    VerdictFits id m (outcome_of search core sat) Unsat → sat ≡ verdict.Unsat
fits-unsat search core verdict.Unknown id m f = absurd f
fits-unsat search core verdict.Sat id m f = absurd f
fits-unsat search core verdict.Unsat id m f = refl
fits-unsat search core verdict.UnsatUnderAssumptions id m f = absurd f

not-unsat : (search : View) (core : List Literal) (sat : SatState) (id : ℕ → Option ℕ) (m : ℕ → Bool) (v : Verdict) → sat ≢ verdict.Unsat →
    VerdictFits id m (outcome_of search core sat) v → v ≢ Unsat
not-unsat search core sat id m v o f e = o (fits-unsat search core sat id m (subst (VerdictFits id m (outcome_of search core sat)) e f))

reopens : (search : View) (core : List Literal) (sat : SatState) (id : ℕ → Option ℕ) (m : ℕ → Bool) (v : Verdict) →
    verdict.Unknown ≡ reopened_state sat → VerdictFits id m (outcome_of search core sat) v → reopened_verdict v ≡ Unknown
reopens search core verdict.Unknown id m Unknown e f = refl
reopens search core verdict.Unknown id m (Sat a) e f = absurd f
reopens search core verdict.Unknown id m Unsat e f = absurd f
reopens search core verdict.Unknown id m (UnsatUnderAssumptions c) e f = absurd f
reopens search core verdict.Sat id m Unknown e f = absurd f
reopens search core verdict.Sat id m (Sat a) e f = refl
reopens search core verdict.Sat id m Unsat e f = absurd f
reopens search core verdict.Sat id m (UnsatUnderAssumptions c) e f = absurd f
reopens search core verdict.Unsat id m v e f = absurd cc
reopens search core verdict.UnsatUnderAssumptions id m v e f = absurd cc

keeps-core : (sat : SatState) → verdict.UnsatUnderAssumptions ≡ reopened_state sat → sat ≡ verdict.UnsatUnderAssumptions
keeps-core verdict.Unknown e = absurd cc
keeps-core verdict.Sat e = absurd cc
keeps-core verdict.Unsat e = absurd cc
keeps-core verdict.UnsatUnderAssumptions e = refl

no-sat : (sat : SatState) → (verdict.Sat ≡ reopened_state sat) ⊎ (verdict.Sat ≡ verdict.Unsat) → ⊥
no-sat sat (inr e) = cc
no-sat verdict.Unknown (inl e) = cc
no-sat verdict.Sat (inl e) = cc
no-sat verdict.Unsat (inl e) = cc
no-sat verdict.UnsatUnderAssumptions (inl e) = cc

-- What loading a clause makes of a verdict v, where x was found with the verdict forgotten: a core stays one.
module _ (w : Carrying) (p : Spaces) (s : State) (c : Clause) (new old : View) (found core : List Literal) (id : ℕ → Option ℕ) (m : ℕ → Bool) where
  pub settled : (sat after : SatState) (v x : Verdict) → Links w (record p { outcome = loaded_outcome after }) (accept c x s) →
      VerdictAfter s.clauses c Unknown x → VerdictFits id m (outcome_of old core sat) v → (after ≡ reopened_state sat) ⊎ (after ≡ verdict.Unsat) →
      CoreFits s.naming.names p.core v → IsRight s.clauses s.assumptions s.counted v →
      (y : Verdict) × VerdictAfter s.clauses c v y × Links w (record p { outcome = outcome_of new found after }) (accept c y s)
  settled sat verdict.Unknown v Unknown k (Refuted q b) f e t r = absurd cc
  settled sat verdict.Unknown v Unknown k (Reopened q b) f (inl e) t r = (Unknown, Reopened (sym (reopens old core sat id m v e f)) b, k)
  settled sat verdict.Unknown v Unknown k (Reopened q b) f (inr e) t r = absurd cc
  settled sat verdict.Unknown v (Sat a) k q f e t r = absurd k.verdict
  settled sat verdict.Unknown v Unsat k q f e t r = absurd k.verdict
  settled sat verdict.Unknown v (UnsatUnderAssumptions d) k q f e t r = absurd k.verdict
  settled sat verdict.Sat v x k q f e t r = absurd (no-sat sat e)
  settled sat verdict.Unsat v Unknown k q f e t r = absurd k.verdict
  settled sat verdict.Unsat v (Sat a) k q f e t r = absurd k.verdict
  settled sat verdict.Unsat v Unsat k (Refuted q b) f e t r = (Unsat, Refuted q b, k)
  settled sat verdict.Unsat v Unsat k (Reopened q b) f e t r = absurd cc
  settled sat verdict.Unsat v (UnsatUnderAssumptions d) k q f e t r = absurd k.verdict
  settled sat verdict.UnsatUnderAssumptions v Unknown k (Refuted q b) f e t r = absurd cc
  settled sat verdict.UnsatUnderAssumptions v Unknown k (Reopened q b) f (inl e) t r =
      let (d, z) = is-core id m core v (subst (λ y. VerdictFits id m (outcome_of old core y) v) (keeps-core sat e) f) in (
        UnsatUnderAssumptions d,
        Reopened (sym (ap reopened_verdict z)) b,
        core-known w (record p { outcome = outcome.Unknown }) (accept c Unknown s) found d k refl (subst (CoreFits s.naming.names p.core) z t)
            (subst (VerdictFits id m (outcome.UnsatUnder core)) z (subst (λ y. VerdictFits id m (outcome_of old core y) v) (keeps-core sat e) f))
            (core_stays s.clauses (s.clauses ++ c ∷ []) s.assumptions d (λ x h. ∈-append_left x s.clauses (c ∷ []) h)
            (subst (IsRight s.clauses s.assumptions s.counted) z r)),
      )
  settled sat verdict.UnsatUnderAssumptions v Unknown k (Reopened q b) f (inr e) t r = absurd cc
  settled sat verdict.UnsatUnderAssumptions v (Sat a) k q f e t r = absurd k.verdict
  settled sat verdict.UnsatUnderAssumptions v Unsat k q f e t r = absurd k.verdict
  settled sat verdict.UnsatUnderAssumptions v (UnsatUnderAssumptions d) k q f e t r = absurd k.verdict

-- a wide clause has several literals
several : (d : Clause) → IsWide d → 1 < length d
several [] ((l, m, i, j, n), t) = absurd i
several (x ∷ []) ((l, m, i, j, n), t) = absurd (n (one i ∙ sym (one j)))
  where
    one : {k : Literal} → k ∈ (x ∷ []) → k ≡ x
    one (inl e) = e
    one (inr z) = absurd z
several (x ∷ y ∷ d) w = omega arith

-- What loading a clause did, whose literals have solver variables, step by step.
pub record Steps (g : Summary) (d : Clause) (joined : Tables) (new : View) (parts : AssumptionParts) (after : SatState) : Type 0 where
  pub not_unsat : g.sat_state ≢ verdict.Unsat
  pub all : (l : Literal) → l ∈ d → HasSolver g.tables (variable_of l)
  pub are_joined : AreJoined d g.tables joined
  pub same_count : length new.values ≡ length g.search.values
  pub well_before : WellFormed g.search
  pub well_new : WellFormed new
  pub in_use : (l : Literal) → IsLiteralOf (search_of new) l → (x : ℕ) × (at g.tables.solvers.backward (variable_of l) ≡ Some x)
  pub lines : List Line
  pub loads : Loads (search_of g.search) (search_of new) (map (carry (chain (at joined.users.forward) (at joined.solvers.forward))) d)
      (loaded_outcome after) lines
  pub verdict : (after ≡ reopened_state g.sat_state) ⊎ (after ≡ verdict.Unsat)
  pub parts_stay : parts ≡ record g.assumed { levels = 0 }

-- the identities of the clause are counted before it is loaded
pub clause-accepted : (g : Summary) (n : State) (d : Clause) (joined : Tables) (new : View) (parts : AssumptionParts) (after : SatState)
    (checker : Option CheckerState) (t : Steps g d joined new parts after) →
    IsCheckedIf g.checker (logged_as (global_literal g.tables)
    (Accepts (map (carry (chain (at joined.users.forward) (at joined.solvers.forward))) d) ∷ written t.lines)) checker →
    SpacesFit (spaces g) (count (join_counted n.counted (map variable_of (map (through_names n.naming) d))) n) →
    (x : Verdict) × (logged : List Entry) × VerdictAfter n.clauses (map (through_names n.naming) d) n.verdict x
    × LogsStaying 0 (n.logged ++ Accepts (map (through_names n.naming) d) ∷ []) logged
    × AreLoggedAs n.variables n.logged logged (logged_as (global_literal g.tables)
    (Accepts (map (carry (chain (at joined.users.forward) (at joined.solvers.forward))) d) ∷ written t.lines))
    × SpacesFit (spaces_of joined checker new parts after) (with_entries logged (append_clause (map (through_names n.naming) d) x n))
clause-accepted g n d joined new parts after checker t checks (w1, k1) =
    let c = map (through_names n.naming) d in
    let p1 = spaces g in
    let n1 = count (join_counted n.counted (map variable_of c)) n in
    let bad = not-unsat g.search g.assumed.failed_core g.sat_state w1.identity p1.model n.verdict t.not_unsat k1.verdict in
    let g2 : Summary = record g { sat_state = verdict.Unknown } in
    let s3 = with_verdict Unknown n1 in
    let k5 : Links w1 (spaces g2) s3 = forgotten w1 p1 n1 k1 bad in
    let p = spaces g2 in
    let j = t.are_joined in
    let same-literals : map (carry (chain (at joined.users.forward) (at joined.solvers.forward))) d ≡ map (solver_literal p) d =
    ap₂ (λ (a b : BiMap). map (carry (chain (at a.forward) (at b.forward))) d) j.users j.solvers in
    let q = spaces_of joined checker new parts after in
    let (x, logged, v, more, logged-as, k6) = loaded w1 p s3 d k5 t.all (data_at joined.kept)
    (record { rest = j.rest; fallen = j.fallen; wide = λ wide l x h e. j.joined (several d wide) l x h e })
    (search_of new) (loaded_outcome after) q.model checker t.lines
    (subst (λ e. IsCheckedIf g.checker (logged_as (global_literal g.tables) (Accepts e ∷ written t.lines)) checker) same-literals checks) refl
    (view-long g.search t.well_before) (view-long new t.well_new) t.in_use
    (subst (λ e. Loads (search_of g.search) (search_of new) e (loaded_outcome after) t.lines) same-literals t.loads) in
    let p6 = record p { kept = data_at joined.kept; search = search_of new; model = q.model; checker = checker } in
    let (y, u, k7) = settled w1 p6 (with_entries logged s3) c new g.search parts.failed_core g.assumed.failed_core w1.identity p1.model g.sat_state after
    n.verdict x k6 v k1.verdict t.verdict k1.core k1.right in (
      y,
      logged,
      u,
      more,
      subst (λ e. AreLoggedAs n.variables n.logged logged (logged_as (global_literal g.tables) (Accepts e ∷ written t.lines))) (sym same-literals) logged-as,
      spaces-same (record p6 { outcome = outcome_of new parts.failed_core after }) q (with_entries logged (append_clause c y n)) (record {
        maps = record {
          global_from_user = λ u. ap (λ m. at m.forward u) j.users;
          user_from_global = λ y. ap (λ m. at m.backward y) j.users;
          watermark = ap (λ m. length m.forward) j.users;
          globals = let c = j.count in omega (arith, c);
          solver_from_global = λ y. ap (λ m. at m.forward y) j.solvers;
          global_from_solver = λ u. ap (λ m. at m.backward u) j.solvers;
          kept = λ y. refl;
          model = λ a e y. refl;
        };
        assumptions = ap (λ (a : AssumptionParts). a.user) t.parts_stay;
        core = ap (λ (a : AssumptionParts). a.user_core) t.parts_stay;
        working = ap (λ (a : AssumptionParts). a.working) t.parts_stay;
        search = refl;
        outcome = refl;
        var_count = t.same_count;
        checker = refl;
      }) (w1, k7),
    )

-- where the search is not at Unsat, the state isn't
pub not-refuted : (g : Summary) (s : State) → Represents g s → g.ledger.valid ≡ true → g.sat_state ≢ verdict.Unsat → s.verdict ≢ Unsat
not-refuted g s st v n = let (w, k) = st.fits v in not-unsat g.search g.assumed.failed_core g.sat_state w.identity (spaces g).model s.verdict n k.verdict
