-- Names come to have solver variables in turn: which states the solver represents then, and what it keeps.
use Rattle.std.proofs.Common.{◌≡◌, ◌≢◌, ℕ, ◌+◌, ◌<◌, ◌≤◌, ◌-◌, false, Option, Some, None, List, [], ◌∷◌, inl, inr, ⊎_elim, length, map, sym, ap, ap₂, ◌∙◌, subst, refl, arith}
use Rattle.std.proofs.lemmas.Bool.{cases_lt}
use Rattle.std.specs.Option.{IsSome}
use Rattle.varisat_theory.specs.promises.Membership.{◌∈◌}
use Rattle.varisat_theory.specs.promises.Literals.{Literal, variable_of, literal_of}
use Rattle.varisat_literals.specs.promises.Numbers.{polarity_of, variable_limit}
use Rattle.varisat_prop.proofs.trails.LiteralValues.{same-literal, polarity-literal}
use Rattle.varisat_search.specs.declared.context.Context.{Context}
use Rattle.varisat_search.specs.declared.state.SatState.{SatState}
use Rattle.varisat_search.specs.declared.state.SatState.TheVariants as verdict
use Rattle.varisat_search.specs.declared.state.SolverState.{SolverState}
use Rattle.varisat_search.specs.AssumptionParts.{AssumptionParts}
use Rattle.varisat_search.specs.Contexts.{view}
use Rattle.varisat_search.specs.Decisions.{AreDecidable}
use Rattle.varisat_theory.proofs.journals.Renaming.{map-∈}
use Rattle.varisat_search.specs.SolverVariables.{HasRoomFor, Searched, HasVariables, KeepsSeen, HasSolverVariable, HadOne, TookOne, CameBack, NameHasSolver, HaveSolversInTurn, AreOver}
use Rattle.varisat_search.proofs.variables.KeptNames.{one-keeps}
use Rattle.varisat_theory.proofs.clauses.Values.{variable-literal}
use Rattle.varisat_search.proofs.variables.SolverVariables.{case-same, in-use-all, some-is, is-there}
use Rattle.varisat_search.proofs.variables.TakenSolvers.{taken-stays, taken-full}
use Rattle.varisat_names.specs.promises.Maps.{chain}
use Rattle.varisat_names.specs.promises.VarBiMap.{BiMap}
use Rattle.varisat_names.specs.promises.VarMap.{at}
use Rattle.varisat_names.specs.promises.VarData.{data_at}
use Rattle.varisat_names.specs.declared.variables.data.VarData.{VarData}
use Rattle.varisat_names.specs.promises.Variables.{Tables, AreLinked}
use Rattle.varisat_names.proofs.Maps.{updated-other, chain-some, chain-through}
use Rattle.varisat_names.proofs.VarMap.{at-inside}
use Rattle.varisat_proof.specs.promises.Calls.{CheckerState}
use Rattle.varisat_solver.specs.promises.States.{State, with_variables, join_one, join_counted}
use Rattle.varisat_solver.specs.promises.Names.{Naming, name_one, name_all, through_names}
use Rattle.varisat_solver.specs.promises.Calls.{IsPastLimit, with_naming}
use Rattle.varisat_tracer.specs.promises.Carried.{carry}
use Rattle.varisat_solver.specs.inside.Spaces.{Spaces, SpacesFit, FitWithNew}
use Rattle.varisat_solver.specs.promises.Summaries.{Summary}
use Rattle.varisat_solver.specs.inside.Representations.{spaces, spaces_of, IsValidSolver}
use Rattle.varisat_solver.specs.inside.Accepting.{naming_of, CanBeNamed, HasNames}
use Rattle.varisat_solver.proofs.calls.SpacesAgree.{count}
use Rattle.varisat_solver.proofs.calls.Counted.{join-has}
use Rattle.varisat_solver.proofs.calls.Carried.{carry-at, carry-sign}
use Rattle.varisat_solver.proofs.accepting.NamesComing.{IsNamedTo, Same, Alone, Onward, named-to, AreAlike, alike-self, one-named, one-watermark, next-below, all-made}
use Rattle.varisat_solver.proofs.modes.TableMarks.{assumed-keeps, marked-keeps}
use Rattle.varisat_solver.proofs.accepting.AcceptClause.{with_tables, named-one, HasNoModel, taken-one, raised, counted-spaces}
use Rattle.varisat_solver.proofs.accepting.AcceptSolverVariables.{solvers-few}
use Rattle.varisat_solver.proofs.modes.VariableChanges.{unsat-or-not}
use Rattle.varisat_solver.proofs.leaving.DetachedValues.{kept-verdict, no-model, returned, state-back, parts-back}
use Rattle.varisat_solver.proofs.steps.SearchLinks.{view-long}

-- 1. There is room.

in-range : (d : List Literal) (l : Literal) → (IsPastLimit d → ⊥) → l ∈ d → variable_of l < variable_limit
in-range d l n h = ⊎_elim (λ b. b) (λ b. absurd (n (l, h, b))) (cases_lt (variable_of l) variable_limit)

naming-same : (t mid : Tables) (n : Naming) → t.users ≡ mid.users → t.kept ≡ mid.kept → AreAlike (naming_of mid) n → AreAlike (naming_of t) n
naming-same t mid n users kept a =
    subst (λ (b : BiMap). AreAlike (naming_of (record t { users = b })) n) (sym users)
    (subst (λ (ks : List VarData). AreAlike (naming_of (record t { users = mid.users; kept = ks })) n) (sym kept) a)

room-for : (e : List Literal) (t : Tables) (m : Naming) → AreAlike (naming_of t) m → m.watermark ≤ variable_limit → (IsPastLimit e → ⊥) →
    (name_all e m).made ≤ variable_limit → HasRoomFor e t
room-for [] t m a w r k = tt
room-for (l ∷ e) t m a w r k =
    let inside = in-range (l ∷ e) l r (inl refl) in
    let rises = one-watermark (variable_of l) m in
    let top : (name_one (variable_of l) m).watermark ≤ variable_limit = omega (arith, inside, rises, w) in (
      inside,
      λ mid new n users kept.
          let b = one-named (variable_of l) t mid m n a in
          let u = b.watermark in
          let x = b.made in
          let y = (all-made e (name_one (variable_of l) m)).0 in (
            (omega (arith, u, top), omega (arith, x, y, k)),
            room-for e new (name_one (variable_of l) m) (naming-same new mid (name_one (variable_of l) m) users kept b) top (λ (j, i, h). r (j, inr i, h)) k,
          ),
    )

pub can-have-room : (list : List Literal) (t : Tables) → CanBeNamed list t → HasRoomFor list t
can-have-room list t c =
    room-for list t (naming_of t) (alike-self (naming_of t)) c.bounded.users c.in_range
    (⊎_elim (λ b. absurd (c.room b)) (λ b. b) (cases_lt variable_limit (name_all list (naming_of t)).made))

-- 2. Names and literals.

one-stays : (u w i : ℕ) (m new : Naming) → IsNamedTo u m new → w < m.watermark → m.names w ≡ Some i → new.names w ≡ Some i
one-stays u w i m new (Same j b e q) h f = ap (λ (n : Naming). n.names w) q ∙ f
one-stays u w i m new (Alone b e q) h f =
    ap (λ (n : Naming). n.names w) q ∙ updated-other m.names u (Some m.made) w (λ z. let y : None ≡ Some i = sym e ∙ ap m.names (sym z) ∙ f in cc) ∙ f
one-stays u w i m new (Onward b q) h f = ap (λ (n : Naming). n.names w) q ∙ next-below (u + 1 - m.watermark) m w h ∙ f

-- a name in use keeps its identity as others come into use
all-stay : (d : List Literal) (w i : ℕ) (m : Naming) → w < m.watermark → m.names w ≡ Some i → (name_all d m).names w ≡ Some i
all-stay [] w i m h f = f
all-stay (l ∷ d) w i m h f =
    let a = one-watermark (variable_of l) m in
    all-stay d w i (name_one (variable_of l) m) (omega (arith, a, h))
    (one-stays (variable_of l) w i m (name_one (variable_of l) m) (named-to (variable_of l) m) h f)

pub over-leads : (f : ℕ → Option ℕ) (ls ms : List Literal) → AreOver f ls ms → (l : Literal) → l ∈ ls → (v : ℕ) × (f (variable_of l) ≡ Some v)
over-leads f [] ms e l h = absurd h
over-leads f (k ∷ ls) ms (v, rest, e, q, r) l (inl s) = (v, ap (λ j. f (variable_of j)) s ∙ e)
over-leads f (k ∷ ls) ms (v, rest, e, q, r) l (inr h) = over-leads f ls rest r l h

pub over-carried : (f : ℕ → Option ℕ) (ls ms : List Literal) → AreOver f ls ms → ms ≡ map (carry f) ls
over-carried f [] ms e = e
over-carried f (l ∷ ls) ms (v, rest, e, q, r) =
    q ∙ ap₂ (λ x xs. x ∷ xs)
    (sym (same-literal (carry f l) (literal_of v (polarity_of l)) (carry-at f l v e ∙ sym (variable-literal v (polarity_of l)))
    (carry-sign f l ∙ sym (polarity-literal v (polarity_of l)))))
    (over-carried f ls rest r)

-- 3. One name.

abbrev pub spaces_at : {A : Type 0} → Option CheckerState → Searched A → SatState → Spaces
spaces_at checker x sat = spaces_of x.tables checker (view x.context) x.context.assumptions sat

-- the state in which the names of the list are in use, and their identities counted
abbrev pub with_names : List Literal → State → State
with_names d s = count (join_counted s.counted (map variable_of (map (through_names (name_all d s.naming)) d))) (with_naming (name_all d s.naming) s)

-- Of the verdict and of the assumptions nothing changed but the level that they reach.
pub record KeepsVerdict {A : Type 0} (x y : Context A) : Type 0 where
  pub state : y.solver_state ≡ record x.solver_state { formula_is_empty = y.solver_state.formula_is_empty }
  pub assumptions : y.assumptions ≡ record x.assumptions { levels = y.assumptions.levels }

keeps-seen : {A : Type 0} (x y : Context A) → x.solver_state.sat_state ≢ verdict.Sat → KeepsSeen x y → KeepsVerdict x y
keeps-seen x y n k = record {
  state = state-back x.solver_state y.solver_state n (inl k.state);
  assumptions =
      parts-back x.assumptions y.assumptions (inl k.assumptions);
}

module _ {A : Type 0} (x : ℕ) (old new : Searched A) (v : ℕ) (none : old.context.solver_state.sat_state ≢ verdict.Sat) where
  case-verdict : HasSolverVariable x old new v → KeepsVerdict old.context new.context
  case-verdict (HadOne e q) = keeps-seen old.context new.context none
      (subst (λ (y : Searched A). KeepsSeen old.context y.context) (sym q) (record { seen = refl; state = refl; assumptions = refl }))
  case-verdict (TookOne left t n k) = keeps-seen old.context new.context none k
  case-verdict (CameBack b left t n k) = ⊎_elim
      (λ u. keeps-seen old.context new.context none (k.unsat u))
      (λ u. record {
        state = state-back old.context.solver_state new.context.solver_state none (inr (k.state u));
        assumptions =
            parts-back old.context.assumptions new.context.assumptions (inr (k.assumptions u));
      })
      (unsat-or-not old.context.solver_state.sat_state)

  case-backward : HasSolverVariable x old new v → (w y : ℕ) → at old.tables.solvers.backward w ≡ Some y → at new.tables.solvers.backward w ≡ Some y
  case-backward (HadOne e q) w y h = ap (λ (s : Searched A). at s.tables.solvers.backward w) q ∙ h
  case-backward (TookOne left t n k) w y h = taken-stays old.tables new.tables x v t w y h
  case-backward (CameBack b left t n k) w y h = taken-stays old.tables new.tables x v t w y h

-- the solver represents the state in which the identity is counted
module _ {A : Type 0} (checker : Option CheckerState) (l : Literal) (x : ℕ) (old new : Searched A) (v : ℕ) (n : State)
    (none : old.context.solver_state.sat_state ≢ verdict.Sat) (leads : at old.tables.users.forward (variable_of l) ≡ Some x)
    (live : (data_at old.tables.kept x).deleted ≡ false) (before : length old.context.assignment.current ≡ length old.tables.solvers.backward)
    (after : HasVariables new) where
  abbrev summary : Searched A → Summary
  summary y = record {
    tables = y.tables;
    opened = None;
    checker = checker;
    search = view y.context;
    assumed = y.context.assumptions;
    sat_state =
        old.context.solver_state.sat_state;
    words = 0;
    ledger = n.ledger;
  }

  abbrev counting : State
  counting = count (join_counted n.counted (map variable_of (map (through_names n.naming) (l ∷ [])))) n

  nothing-logged : HasNoModel (summary old)
  nothing-logged = no-model (view old.context) old.context.assumptions.failed_core old.context.solver_state.sat_state none

  counted-at : (y : Searched A) → at y.tables.users.forward (variable_of l) ≡ Some x → SpacesFit (spaces (summary y)) n →
      SpacesFit (spaces (summary y)) counting
  counted-at y e f = counted-spaces (summary y) n (l ∷ []) f
      (λ k. elim [ inl q ↦ (x, ap (λ j. at y.tables.users.forward (variable_of j)) q ∙ e) | inr z ↦ absurd z ])

  case-spaces : HasSolverVariable x old new v → SpacesFit (spaces_at checker old old.context.solver_state.sat_state) n →
      SpacesFit (spaces_at checker new old.context.solver_state.sat_state) counting
  case-spaces (HadOne e q) f = subst (λ (y : Searched A). SpacesFit (spaces_at checker y old.context.solver_state.sat_state) counting) (sym q)
      (counted-at old leads f)
  case-spaces (TookOne left t unit k) f =
      let (w, links) = counted-at old leads f in
      let (i, is) = links.names.live (variable_of l) x leads in
      let named = links.names.agree (variable_of l) ∙ chain-some (at old.tables.users.forward) w.identity (variable_of l) x leads ∙ is in
      let spoken = subst (λ j. j ∈ counting.counted) (carry-at n.naming.names l i named)
      (join-has (map variable_of (map (through_names n.naming) (l ∷ []))) n.counted (variable_of (through_names n.naming l)) (inl refl)) in
      let taken = taken-one (summary old) counting new.tables x v i w links nothing-logged unit is spoken left t in
      let few = ⊎_elim
      (λ same. let j = taken.1.few in omega (arith, j, after.count, same, before))
      (λ full. let j = solvers-few taken.0 (spaces (with_tables new.tables (summary old))) counting
      (length new.tables.solvers.backward) taken.1 full in omega (arith, j, after.count))
      (taken-full old.tables new.tables x v t) in
      subst (λ (a : AssumptionParts). SpacesFit (spaces_of new.tables checker (view new.context) a old.context.solver_state.sat_state) counting)
      (sym k.assumptions)
      (raised (with_tables new.tables (summary old)) counting (view new.context) taken nothing-logged k.seen few)
  case-spaces (CameBack b left t unit k) f =
      let back = returned (summary old) n new.tables x v b (view new.context) new.context.assumptions (record {
        no_model = none;
        is_taken = t;
        live = live;
        unit = unit;
        was_left = left;
        count_before = before;
        count = after.count;
        unsat = λ e. (k.unsat e).seen;
        loads = k.lines;
        long = view-long (view new.context) after.ready.well;
        in_use = in-use-all new.tables (view new.context) new.context.vsids after.decidable after.ready.decidable after.ready.well;
        parts_stay = (case-verdict x old new v none (CameBack b left t unit k)).assumptions;
      }) f in
      counted-at new (ap (λ (m : BiMap). at m.forward (variable_of l)) t.users ∙ leads) back

module _ {A : Type 0} (l : Literal) (old new : Searched A) (v : ℕ) (none : old.context.solver_state.sat_state ≢ verdict.Sat)
    (h : NameHasSolver (variable_of l) old new v) where
  abbrev between : Searched A
  between = record old { tables = h.mid }

  pub turn-verdict : KeepsVerdict old.context new.context
  turn-verdict = case-verdict h.global (record old { tables = h.mid }) new v none h.solver

  pub turn-spaces : (checker : Option CheckerState) (s : State) → length old.context.assignment.current ≡ length old.tables.solvers.backward →
      SpacesFit (spaces_at checker old old.context.solver_state.sat_state) s →
      FitWithNew (spaces_at checker new new.context.solver_state.sat_state) s (with_names (l ∷ []) s)
  turn-spaces checker s before f =
      let first : Summary = record {
        tables = old.tables;
        opened = None;
        checker = checker;
        search = view old.context;
        assumed =
            old.context.assumptions;
        sat_state = old.context.solver_state.sat_state;
        words = 0;
        ledger = s.ledger;
      } in
      let (variables, keep, named) = named-one first s h.mid (variable_of l) f h.named in
      let n = with_variables variables (with_naming (name_one (variable_of l) s.naming) s) in
      let same = ap (λ (b : BiMap). length b.backward) (one-keeps (variable_of l) old.tables h.mid h.named).solvers in
      let fits = case-spaces checker l h.global (record old { tables = h.mid }) new v n none h.leads h.live (before ∙ sym same) h.variables h.solver named in (
        variables,
        keep,
        subst (λ y. SpacesFit (spaces_at checker new y) (with_variables variables (with_names (l ∷ []) s)))
            (sym (ap (λ (x : SolverState). x.sat_state) turn-verdict.state)) fits,
      )

  pub turn-kept : AreLinked old.tables → IsValidSolver old.tables old.context → IsValidSolver new.tables new.context
  turn-kept linked k =
      let keeps = one-keeps (variable_of l) old.tables h.mid h.named in
      let (users, kept) = case-same h.global (record old { tables = h.mid }) new v h.solver in
      let user = ap (λ (a : AssumptionParts). a.user) turn-verdict.assumptions in
      let working = ap (λ (a : AssumptionParts). a.working) turn-verdict.assumptions in
      let backward = case-backward h.global (record old { tables = h.mid }) new v none h.solver in
      record {
        bounded = record { users = h.variables.room.0; globals = h.variables.room.1; solvers = h.variables.solvers };
        ready = h.variables.ready;
        count = h.variables.count;
        decidable = h.variables.decidable;
        assumed = λ m i.
            let (y, e) = is-there (at old.tables.users.forward (variable_of m)) (k.assumed m (subst (λ ls. m ∈ ls) user i)) in
            some-is (at new.tables.users.forward (variable_of m)) y (ap (λ (b : BiMap). at b.forward (variable_of m)) users ∙ keeps.named (variable_of m) y e);
        marked = λ m z i f.
            let j = subst (λ ls. m ∈ ls) user i in
            let (y, e) = is-there (at old.tables.users.forward (variable_of m)) (k.assumed m j) in
            ap (λ (ds : List VarData). (data_at ds z).assumed) kept ∙ marked-keeps old.tables h.mid (variable_of m) z y linked keeps e
            (k.marked m y j e) (ap (λ (b : BiMap). at b.forward (variable_of m)) (sym users) ∙ f);
        working = λ m i.
            let (y, u, a, b, e) = assumed-keeps old.tables h.mid (variable_of m) linked keeps (k.working m (subst (λ ls. m ∈ ls) working i)) in
            (y, u, backward (variable_of m) y a, ap (λ (b : BiMap). at b.backward y) users ∙ b, ap (λ (ds : List VarData). (data_at ds y).assumed) kept ∙ e);
      }

-- 4. All of them.

-- What is true once the names of the list have solver variables.
pub record HaveSolvers {A : Type 0} (d : List Literal) (old new : Searched A) : Type 0 where
  pub kept : IsValidSolver new.tables new.context
  pub verdict : KeepsVerdict old.context new.context
  pub represents : (checker : Option CheckerState) (s : State) → SpacesFit (spaces_at checker old old.context.solver_state.sat_state) s →
      FitWithNew (spaces_at checker new new.context.solver_state.sat_state) s (with_names d s)

pub have-solvers : {A : Type 0} (d : List Literal) (old new : Searched A) → old.context.solver_state.sat_state ≢ verdict.Sat →
    AreLinked old.tables → IsValidSolver old.tables old.context → HaveSolversInTurn d old new → HaveSolvers d old new
have-solvers {A = A} [] old new none linked k e =
    subst (λ (y : Searched A). HaveSolvers [] old y) (sym e)
    (record { kept = k; verdict = record { state = refl; assumptions = refl }; represents = λ checker s f. (s.variables, λ i b. refl, f) })
have-solvers (l ∷ d) old new none linked k (mid, v, h, rest) =
    let t = turn-verdict l old mid v none h in
    let sat = ap (λ (x : SolverState). x.sat_state) t.state in
    let more = have-solvers d mid new (λ e. none (sym sat ∙ e)) h.linked (turn-kept l old mid v none h linked k) rest in
    record {
      kept = more.kept;
      verdict = record {
        state = more.verdict.state ∙ ap (λ (x : SolverState). record x { formula_is_empty = new.context.solver_state.formula_is_empty }) t.state;
        assumptions = more.verdict.assumptions ∙ ap (λ (x : AssumptionParts). record x { levels = new.context.assumptions.levels }) t.assumptions;
      };
      represents = λ checker s f.
          let m = name_one (variable_of l) s.naming in
          let all = name_all d m in
          let (variables, keep, first) = turn-spaces l old mid v none h checker s k.count f in
          let made = (all-made (l ∷ []) s.naming).0 in
          -- the name keeps its identity as the others come into use
          let users = (case-same h.global (record old { tables = h.mid }) mid v h.solver).0 in
          let here = ap (λ (b : BiMap). at b.forward (variable_of l)) users ∙ h.leads in
          let (i, is) = first.1.names.live (variable_of l) h.global here in
          let named : m.names (variable_of l) ≡ Some i = first.1.names.agree (variable_of l)
          ∙ chain-some (at mid.tables.users.forward) first.0.identity (variable_of l) h.global here ∙ is in
          let inside = at-inside mid.tables.users.forward (variable_of l) h.global here in
          let w = first.1.watermark in
          let stays : all.names (variable_of l) ≡ Some i = all-stay d (variable_of l) i m (omega (arith, inside, w)) named in
          let same : variable_of (through_names m l) ≡ variable_of (through_names all l) = carry-at m.names l i named ∙ sym (carry-at all.names l i stays) in
          let (last, further, fits) = more.represents checker (with_variables variables (with_names (l ∷ []) s)) first in (
            last,
            λ i b. further i (omega (arith, b, made)) ∙ keep i b,
            subst (λ j. SpacesFit (spaces_at checker new new.context.solver_state.sat_state)
                (with_variables last (count (join_counted (join_one j s.counted) (map variable_of (map (through_names all) d)))
                (with_naming all s)))) same fits,
          );
    }

-- 5. Before and after.

pub has-variables : {A : Type 0} (t : Tables) (c : Context A) (state : SolverState) → IsValidSolver t c →
    HasVariables {A = A} (record { tables = t; context = record c { solver_state = state } })
has-variables t c state k = record {
  room = (k.bounded.users, k.bounded.globals);
  solvers = k.bounded.solvers;
  ready =
      (kept-verdict t c (record c { solver_state = state }) refl k).ready;
  count = k.count;
  decidable = k.decidable;
}

-- names get solver variables once the verdict changed
pub have-solvers-then : {A : Type 0} (d : List Literal) (t : Tables) (c : Context A) (state : SolverState) (new : Searched A) →
    state.sat_state ≢ verdict.Sat → AreLinked t → IsValidSolver t c → HaveSolversInTurn d
    (record { tables = t; context = record c { solver_state = state } }) new →
    HaveSolvers d (record { tables = t; context = record c { solver_state = state } }) new
have-solvers-then d t c state new none linked k e = have-solvers d
    (record { tables = t; context = record c { solver_state = state } }) new none linked (kept-verdict t c (record c { solver_state = state }) refl k) e

-- Names that have solver variables, carried to literals over these.
module _ {A : Type 0} {t : Tables} {c : Context A} (list literals : List Literal) (k : IsValidSolver t c)
    (over : AreOver (chain (at t.users.forward) (at t.solvers.forward)) list literals) where
  pub all-named : HasNames list t
  all-named = record {
    bounded = k.bounded;
    named = λ l h.
        let (v, e) = over-leads (chain (at t.users.forward) (at t.solvers.forward)) list literals over l h in
        let (x, a, b) = chain-through (at t.users.forward) (at t.solvers.forward) (variable_of l) v e in
        some-is (at t.users.forward (variable_of l)) x a;
  }

  -- the variables of the literals are in use
  pub literals-known : AreLinked t → (l : Literal) → l ∈ literals → IsSome (at t.solvers.backward (variable_of l))
  literals-known linked l h =
      let (m, i, q) = map-∈ (carry (chain (at t.users.forward) (at t.solvers.forward))) l list
      (subst (λ ls. l ∈ ls) (over-carried (chain (at t.users.forward) (at t.solvers.forward)) list literals over) h) in
      let (v, r) = over-leads (chain (at t.users.forward) (at t.solvers.forward)) list literals over m i in
      let (x, a, b) = chain-through (at t.users.forward) (at t.solvers.forward) (variable_of m) v r in
      some-is (at t.solvers.backward (variable_of l)) x
      (ap (at t.solvers.backward) (ap variable_of q ∙ carry-at (chain (at t.users.forward) (at t.solvers.forward)) m v r) ∙ linked.solvers.there x v b)

  -- the search has them
  pub literals-within : AreLinked t → (l : Literal) → l ∈ literals → variable_of l < length c.assignment.current
  literals-within linked l h =
      let (x, e) = is-there (at t.solvers.backward (variable_of l)) (literals-known linked l h) in
      let r = at-inside t.solvers.backward (variable_of l) x e in
      omega (arith, r, k.count)

  -- and may decide them
  pub literals-decidable : AreLinked t → AreDecidable (view c) c.vsids literals
  literals-decidable linked l h = (k.decidable (variable_of l)).1 (literals-known linked l h)
