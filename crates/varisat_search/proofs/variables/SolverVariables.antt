-- Names come to have solver variables in turn.
use Rattle.std.proofs.Common.{◌≡◌, ℕ, suc, ◌+◌, ◌%◌, ◌<◌, ◌≤◌, ◌↔◌, Bool, true, false, IsTrue, eq-eqb, ne_eqb, get_or, drop, add-one, MatchOption, Option, Some, None, List, [], ◌∷◌, ◌++◌, inl, ⊎_elim, length, sym, ap, ◌∙◌, subst, refl, arith}
use Rattle.std.proofs.Math.Seq.{drop-cons}
use Rattle.std.specs.Option.{IsSome}
use Rattle.varisat_theory.specs.promises.Membership.{◌∈◌}
use Rattle.varisat_theory.specs.promises.Literals.{Literal, Clause, variable_of, literal_of}
use Rattle.varisat_theory.specs.inside.Outcomes.{Loads}
use Rattle.varisat_theory.specs.inside.Outcomes as outcome
use Rattle.varisat_theory.specs.promises.Searches.{KeptClause, IsLiteralOf}
use Rattle.varisat_theory.proofs.steps.SearchFits.{clause_in}
use Rattle.varisat_theory.proofs.clauses.Members.{equal_or_not}
use Rattle.varisat_theory.proofs.journals.Renaming.{map-∈}
use Rattle.varisat_literals.specs.promises.Numbers.{polarity_of, variable_limit}
use Rattle.varisat_prop.specs.View.{View, WellFormed, kept}
use Rattle.varisat_vsids.specs.Activities.{Activities}
use Rattle.varisat_names.specs.promises.Maps.{chain}
use Rattle.varisat_names.specs.promises.VarBiMap.{BiMap}
use Rattle.varisat_names.specs.promises.VarMap.{at}
use Rattle.varisat_names.specs.promises.VarData.{data_at}
use Rattle.varisat_names.specs.promises.Variables.{Tables, AreLinked, IsNamed, IsTaken}
use Rattle.varisat_names.proofs.Maps.{updated-other, chain-some, chain-through}
use Rattle.varisat_search.specs.declared.context.Context.{Context}
use Rattle.varisat_search.specs.declared.state.SolverState.{SolverState}
use Rattle.varisat_search.specs.AssumptionParts.{AssumptionParts}
use Rattle.varisat_search.specs.Contexts.{view}
use Rattle.varisat_search.specs.Steps.{reopened_state}
use Rattle.varisat_search.specs.Decisions.{IsDecidable, CanDecide, SameDecidable, SameDecidableBut}
use Rattle.varisat_search.specs.Seen.{search_of}
use Rattle.varisat_search.specs.SolverVariables.{HasRoom, HasRoomFor, Searched, HasVariables, KeepsSeen, HasUnitAgain, HasSolverVariable, HadOne, TookOne, CameBack, NameHasSolver, HaveSolversInTurn, AreOver}
use Rattle.varisat_search.proofs.stepping.ViewSearch.{seen_clauses, fixed_from}
use Rattle.varisat_search.proofs.variables.KeptNames.{one-keeps}
use Rattle.varisat_search.proofs.variables.TakenSolvers.{taken-stays, taken-there, taken-here, taken-other, taken-full, solvers-within}

-- 1. One search.

-- a literal of a kept clause is one of the search
pub kept-literal : (s : View) (c : Clause) (l : Literal) → c ∈ kept s → l ∈ c → (k : KeptClause) × (k ∈ (search_of s).kept) × (l ∈ k.clause)
kept-literal s c l h i =
    let (k, j, e) = map-∈ (λ (k : KeptClause). k.clause) c (search_of s).kept (subst (λ P. c ∈ P) (sym (seen_clauses s)) h) in
    (k, j, subst (λ d. l ∈ d) e i)

pub some-is : (o : Option ℕ) (v : ℕ) → o ≡ Some v → IsSome o
some-is o v e = subst IsSome (sym e) refl

pub is-there : (o : Option ℕ) → IsSome o → (v : ℕ) × (o ≡ Some v)
is-there None h = absurd (let z : false ≡ true = h in cc)
is-there (Some v) h = (v, refl)

-- the solver variable that was taken may be decided, as those before
pub taken-decidable : (m n : Tables) (x v : ℕ) (s : View) (a : Activities) (t : View) (b : Activities) (u : View) (e : Activities) →
    IsTaken m n x v → ((w : ℕ) → IsDecidable s a w ↔ IsSome (at m.solvers.backward w)) → SameDecidable s a t b → IsDecidable u e v →
    SameDecidableBut v t b u e → (w : ℕ) → IsDecidable u e w ↔ IsSome (at n.solvers.backward w)
taken-decidable m n x v s a t b u e k before same made others o = (
  λ h. ⊎_elim
      (λ q. some-is (at n.solvers.backward o) x (ap (at n.solvers.backward) q ∙ taken-there m n x v k))
      (λ q. let (y, f) = is-there (at m.solvers.backward o) ((before o).0 ((same o).1 ((others o q).1 h))) in
      some-is (at n.solvers.backward o) y (taken-stays m n x v k o y f))
      (equal_or_not o v),
  λ h. ⊎_elim
      (λ q. subst (IsDecidable u e) (sym q) made)
      (λ q. let (y, f) = is-there (at n.solvers.backward o) h in
      (others o q).0 ((same o).0
      ((before o).1 (some-is (at m.solvers.backward o) y
      (sym (updated-other (at m.solvers.backward) v (Some x) o q) ∙ sym (k.solvers.backward.at_each o) ∙ f)))))
      (equal_or_not o v),
)

-- no solver variable is past the limit
pub taken-small : (m n : Tables) (x v : ℕ) → AreLinked n → HasRoom m → length m.solvers.backward ≤ variable_limit → IsTaken m n x v →
    length n.solvers.backward ≤ variable_limit
taken-small m n x v joined room small t =
    let g = ap length t.kept in
    let k = room.1 in
    ⊎_elim (λ e. omega (arith, e, small)) (λ full. let w = solvers-within n joined full in omega (arith, w, g, k)) (taken-full m n x v t)

pub taken-room : (m n : Tables) (x v : ℕ) → HasRoom m → IsTaken m n x v → HasRoom n
taken-room m n x v room t =
    let u = ap (λ (b : BiMap). length b.forward) t.users in
    let g = ap length t.kept in
    let j = room.0 in
    let k = room.1 in
    (omega (arith, u, j), omega (arith, g, k))

-- a name came into use
pub has-named : {A : Type 0} (u : ℕ) (m n : Tables) (c : Context A) → HasVariables {A = A} (record { tables = m; context = c }) → IsNamed u m n →
    HasRoom n → HasVariables {A = A} (record { tables = n; context = c })
has-named u m n c k named room =
    let same = (one-keeps u m n named).solvers in
    let length-same = ap (λ (b : BiMap). length b.backward) same in
    record {
      room = room;
      solvers = let s = k.solvers in omega (arith, s, length-same);
      ready = k.ready;
      count = k.count ∙ sym length-same;
      decidable = subst (λ (b : BiMap). (v : ℕ) → IsDecidable (view c) c.vsids v ↔ IsSome (at b.backward v)) (sym same) k.decidable;
    }

-- what is said of a search is over variables in use
pub in-use-all : (m : Tables) (s : View) (a : Activities) → ((v : ℕ) → IsDecidable s a v ↔ IsSome (at m.solvers.backward v)) → CanDecide s a →
    WellFormed s → (l : Literal) → IsLiteralOf (search_of s) l → (x : ℕ) × (at m.solvers.backward (variable_of l) ≡ Some x)
in-use-all m s a d c w l h =
    is-there (at m.solvers.backward (variable_of l)) ((d (variable_of l)).0 (⊎_elim
    (λ i. inl (λ e. let z : None ≡ Some (polarity_of l) = sym e ∙ (fixed_from s w l i).0 in cc))
    (λ (k, i, j). c.decidable k.clause (subst (λ P. k.clause ∈ P) (seen_clauses s) (clause_in (search_of s).kept k i)) l j)
    h))

-- Which variables may be decided says nothing of a unit that is held again.
pub unit-over : {A : Type 0} (old mid new : Context A) (a : Activities) (l : Literal) → mid ≡ record old { vsids = a } → HasUnitAgain l mid new →
    HasUnitAgain l old new
unit-over {A} old mid new a l e h = go (subst (λ (x : Context A). HasUnitAgain l x new) e h)
  where
    go : HasUnitAgain l (record old { vsids = a }) new → HasUnitAgain l old new
    go k = record {
      unsat = λ u. let m = k.unsat u in record { seen = m.seen; state = m.state; assumptions = m.assumptions };
      lines = k.lines;
      state = k.state;
      assumptions = k.assumptions;
    }

-- A solver variable was taken and initialized.
pub solver-case : {A : Type 0} (x v : ℕ) (m n : Tables) (c mid d : Context A) (unit : Option Bool) → at m.solvers.forward x ≡ None →
    IsTaken m n x v → (data_at m.kept x).unit ≡ unit → KeepsSeen c mid →
    MatchOption unit (KeepsSeen mid d) (λ b. HasUnitAgain (literal_of v b) mid d) →
    HasSolverVariable {A = A} x (record { tables = m; context = c }) (record { tables = n; context = d }) v
solver-case x v m n c mid d None left t e k r = TookOne left t e
    (record { seen = r.seen ∙ k.seen; state = r.state ∙ k.state; assumptions = r.assumptions ∙ k.assumptions })
solver-case x v m n c mid d (Some b) left t e k r =
    let sat = ap (λ (s : SolverState). s.sat_state) k.state in
    CameBack b left t e (record {
      unsat = λ u. let q = r.unsat (sat ∙ u) in record { seen = q.seen ∙ k.seen; state = q.state ∙ k.state; assumptions = q.assumptions ∙ k.assumptions };
      lines = λ u. subst (λ s. Loads s (search_of (view d)) (literal_of v b ∷ []) outcome.Unknown []) k.seen (r.lines (λ q. u (sym sat ∙ q)));
      state = λ u. r.state (λ q. u (sym sat ∙ q))
          ∙ ap (λ (s : SolverState). record s { sat_state = reopened_state s.sat_state; formula_is_empty = false }) k.state;
      assumptions = λ u. r.assumptions (λ q. u (sym sat ∙ q)) ∙ ap (λ (a : AssumptionParts). record a { levels = 0 }) k.assumptions;
    })

-- 2. What stays from turn to turn.

module _ {A : Type 0} (x : ℕ) (old new : Searched A) (v : ℕ) where
  pub case-same : HasSolverVariable x old new v → (new.tables.users ≡ old.tables.users) × (new.tables.kept ≡ old.tables.kept)
  case-same (HadOne e q) = (ap (λ (s : Searched A). s.tables.users) q, ap (λ (s : Searched A). s.tables.kept) q)
  case-same (TookOne left t n k) = (t.users, t.kept)
  case-same (CameBack b left t n k) = (t.users, t.kept)

  pub case-here : HasSolverVariable x old new v → at new.tables.solvers.forward x ≡ Some v
  case-here (HadOne e q) = ap (λ (s : Searched A). at s.tables.solvers.forward x) q ∙ e
  case-here (TookOne left t n k) = taken-here old.tables new.tables x v t
  case-here (CameBack b left t n k) = taken-here old.tables new.tables x v t

  pub case-stays : HasSolverVariable x old new v → (y w : ℕ) → at old.tables.solvers.forward y ≡ Some w → at new.tables.solvers.forward y ≡ Some w
  case-stays (HadOne e q) y w h = ap (λ (s : Searched A). at s.tables.solvers.forward y) q ∙ h
  case-stays (TookOne left t n k) y w h = taken-other old.tables new.tables x v t left y w h
  case-stays (CameBack b left t n k) y w h = taken-other old.tables new.tables x v t left y w h

module _ {A : Type 0} (u : ℕ) (old new : Searched A) (v : ℕ) (h : NameHasSolver u old new v) where
  pub solver-here : chain (at new.tables.users.forward) (at new.tables.solvers.forward) u ≡ Some v
  solver-here =
      let users = (case-same h.global (record old { tables = h.mid }) new v h.solver).0 in
      chain-some (at new.tables.users.forward) (at new.tables.solvers.forward) u h.global (ap (λ (b : BiMap). at b.forward u) users ∙ h.leads)
      ∙ case-here h.global (record old { tables = h.mid }) new v h.solver

  pub solver-stays : (w s : ℕ) → chain (at old.tables.users.forward) (at old.tables.solvers.forward) w ≡ Some s →
      chain (at new.tables.users.forward) (at new.tables.solvers.forward) w ≡ Some s
  solver-stays w s e =
      let (y, a, b) = chain-through (at old.tables.users.forward) (at old.tables.solvers.forward) w s e in
      let keeps = one-keeps u old.tables h.mid h.named in
      let users = (case-same h.global (record old { tables = h.mid }) new v h.solver).0 in
      chain-some (at new.tables.users.forward) (at new.tables.solvers.forward) w y (ap (λ (m : BiMap). at m.forward w) users ∙ keeps.named w y a)
      ∙ case-stays h.global (record old { tables = h.mid }) new v h.solver y s (ap (λ (m : BiMap). at m.forward y) keeps.solvers ∙ b)

  -- there is room for those that are left
  pub room-left : (l : Literal) (ls : List Literal) → variable_of l ≡ u → HasRoomFor (l ∷ ls) old.tables → HasRoomFor ls new.tables
  room-left l ls e room =
      let (users, kept) = case-same h.global (record old { tables = h.mid }) new v h.solver in
      (room.1 h.mid new.tables (subst (λ w. IsNamed w old.tables h.mid) (sym e) h.named) users kept).1

-- one more literal's name has a solver variable
pub in-turn-push : {A : Type 0} (d : List Literal) (old mid new : Searched A) (l : Literal) (v : ℕ) → HaveSolversInTurn d old mid →
    NameHasSolver (variable_of l) mid new v → HaveSolversInTurn (d ++ l ∷ []) old new
in-turn-push [] old mid new l v e h = (new, v, subst (λ s. NameHasSolver (variable_of l) s new v) e h, refl)
in-turn-push (m ∷ d) old mid new l v (s, w, g, rest) h = (s, w, g, in-turn-push d s mid new l v rest h)

-- 3. Literals over solver variables.

-- the map may lead further
pub over-more : (f g : ℕ → Option ℕ) → ((u v : ℕ) → f u ≡ Some v → g u ≡ Some v) → (ls ms : List Literal) → AreOver f ls ms → AreOver g ls ms
over-more f g more [] ms e = e
over-more f g more (l ∷ ls) ms (v, rest, e, q, r) = (v, rest, more (variable_of l) v e, q, over-more f g more ls rest r)

-- one more literal
pub over-push : (f : ℕ → Option ℕ) (ls ms : List Literal) (l : Literal) (v : ℕ) → AreOver f ls ms → f (variable_of l) ≡ Some v →
    AreOver f (ls ++ l ∷ []) (ms ++ literal_of v (polarity_of l) ∷ [])
over-push f [] ms l v e h = (v, [], h, ap (λ xs. xs ++ literal_of v (polarity_of l) ∷ []) e, refl)
over-push f (k ∷ ls) ms l v (w, rest, e, q, r) h =
    (w, rest ++ literal_of v (polarity_of l) ∷ [], e, ap (λ xs. xs ++ literal_of v (polarity_of l) ∷ []) q, over-push f ls rest l v r h)

-- the sign of a literal
pub sign-is : (b : Bool) (l : Literal) → IsTrue b ↔ (l % 2 ≡ 0) → b ≡ polarity_of l
sign-is true l p = sym (eq-eqb (l % 2) 0 (p.0 refl))
sign-is false l p = sym (ne_eqb (l % 2) 0 (λ e. let z : false ≡ true = p.1 e in cc))

-- the literals from a place on
pub drop-item : {X : Type 0} (xs : List X) (i : ℕ) (v : X) → i < length xs → v ≡ get_or xs i v → drop i xs ≡ v ∷ drop (i + 1) xs
drop-item xs i v h e = drop-cons xs i v h ∙ ap (λ y. y ∷ drop (suc i) xs) (sym e) ∙ ap (λ (n : ℕ). v ∷ drop n xs) (sym (add-one i))
