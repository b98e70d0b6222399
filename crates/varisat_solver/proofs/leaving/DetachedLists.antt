-- Lists of variables that are dropped in turn: which are unneeded, and what stays of those that are kept.
use Rattle.std.proofs.Common.{◌≡◌, ◌≢◌, ℕ, not, Bool, true, false, Option, Some, None, List, ◌↔◌, length, sym, ap, ◌∙◌, subst, refl, arith, zero, suc, ◌<◌, ◌||◌, nat_eq, ◌&&◌, [], ◌∷◌, ◌⊎◌, inl, inr, map, ap₂, eq-eqb, ne_eqb, ◌+◌, ◌++◌, ⊎_elim}
use Rattle.std.specs.Option.{IsSome, is_none}
use Rattle.std.specs.Prelude.{slice_index_or}
use Rattle.std.proofs.lemmas.List.{map-append}
use Rattle.std.proofs.lemmas.Bool.{false_from_ne_true}
use Rattle.varisat_theory.specs.promises.Membership.{◌∈◌, IsDistinct}
use Rattle.varisat_theory.specs.promises.Literals.{Literal, variable_of, Clause, literal_of}
use Rattle.varisat_prop.specs.Leaving.{leaves, staying}
use Rattle.varisat_prop.specs.View.{View, WellFormed, kept, node_at, node_of, level_of, is_clause}
use Rattle.varisat_prop.proofs.views.Leaving.{staying-was, cleared-length, was-staying}
use Rattle.varisat_search.specs.Decisions.{IsDecidable}
use Rattle.varisat_search.specs.Forgotten.{IsWithout, AreStaying, search_without, IsMentioned, FlagsMentioned}
use Rattle.varisat_search.specs.declared.context.Context.{Context}
use Rattle.varisat_search.specs.AssumptionParts.{AssumptionParts}
use Rattle.varisat_search.specs.Contexts.{view, IsReady}
use Rattle.varisat_names.specs.promises.VarMap.{at}
use Rattle.varisat_names.specs.promises.VarBiMap.{BiMap}
use Rattle.varisat_names.specs.promises.VarData.{data_at}
use Rattle.varisat_names.specs.promises.Variables.{Tables, AreLinked}
use Rattle.varisat_names.specs.declared.variables.data.VarData.{VarData}
use Rattle.varisat_solver.specs.inside.Accepting.{DecidesInUse, HasUser, IsAssumedSolver}
use Rattle.varisat_solver.specs.inside.Representations.{IsValidSolver, spaces_of}
use Rattle.varisat_solver.specs.promises.Detaching.{leads_to_unassumed, AreOverAssumed}
use Rattle.varisat_solver.specs.inside.Detached.{FlagsVariables, DetachesFromTables, unassumed_among, AreDetachedAlone, leads_to_hidden, ListsUnneeded, LosesSolverVar, AreDetached, HasOnlyNeeded, Detaches}
use Rattle.varisat_theory.specs.promises.Held.{mentions}
use Rattle.varisat_theory.specs.promises.Searches.{Search}
use Rattle.varisat_theory.proofs.clauses.Places.{place_in}
use Rattle.varisat_theory.proofs.journals.Renaming.{∈-map, map-∈}
use Rattle.varisat_literals.specs.promises.Numbers.{polarity_of}
use Rattle.varisat_prop.proofs.pairs.SimplifiedPairs.{filter-∈, ∈-filter}
use Rattle.varisat_search.specs.Seen.{search_of, is_fixed, is_proved}
use Rattle.varisat_search.specs.RootSimplified.{IsRootSimplified}
use Rattle.varisat_search.proofs.variables.ForgottenViews.{distinct-left}
use Rattle.varisat_solver.specs.promises.States.{State}
use Rattle.varisat_theory.specs.promises.Journals.{Entry}
use Rattle.varisat_tracer.specs.inside.Tracing.{TracerState, retires_if_deleted}
use Rattle.varisat_solver.specs.promises.Journals.{with_entries, LogsRetired}
use Rattle.varisat_solver.specs.inside.Spaces.{SpacesFit}
use Rattle.varisat_solver.proofs.leaving.DetachedAlone.{left-alone}
use Rattle.varisat_solver.proofs.leaving.DetachedTables.{AreWithout, variables-left, AreLeft}
use Rattle.varisat_solver.proofs.calls.Carried.{literal-parts}
use Rattle.varisat_solver.proofs.steps.SearchLinks.{of-kept}
use Rattle.varisat_theory.proofs.clauses.Members.{equal_or_not, ∈-append_cases, ∈-append_left, ∈-append_right}
use Rattle.varisat_theory.proofs.steps.StepRetirements.{not_mentioned}
use Rattle.varisat_proof.specs.promises.Proving.{IsLogged}
use Rattle.varisat_tracer.specs.inside.Logged.{logged-none, logged-more}
use Rattle.varisat_names.proofs.Maps.{chain-some}
use Rattle.varisat_names.proofs.VarMap.{at-inside}
use Rattle.varisat_solver.proofs.entries.LoggedProofs.{leaving-nothing}
use Rattle.varisat_prop.specs.declared.prop.graph.Reason.TheVariants as reason
use Rattle.varisat_prop.proofs.trails.TrailValues.{variables-distinct}
use Rattle.varisat_search.specs.declared.state.SatState.TheVariants as verdict
use Rattle.varisat_search.proofs.variables.SolverVariables.{is-there}
use Rattle.varisat_clause.proofs.MarkedClauses.{distinct-more}

-- Solver variables left the tables and the search. What a solver keeps then, whichever they are.

-- The variables of the literals were flagged, and left the tables and the search. `size` is the number of flags.
pub record HaveLeft {A : Type 0} (m n : Tables) (x y : Context A) (gone : List Bool) (ls : List Literal) (size : ℕ) : Type 0 where
  pub linked : AreLinked m
  pub kept : IsValidSolver m x
  pub flags : FlagsVariables size ls gone
  pub tables : DetachesFromTables ls m n
  pub without : IsWithout gone (view x) (view y)
  pub assumptions : y.assumptions ≡ x.assumptions
  pub ready : IsReady y
  pub decidable : (v : ℕ) → IsDecidable (view y) y.vsids v ↔ (IsDecidable (view x) x.vsids v × (leaves gone v ≡ false))

-- where the search dropped those that a copy of the flags has
pub have-left : {A : Type 0} (m n : Tables) (x y : Context A) (copy gone : List Bool) (ls : List Literal) (size : ℕ) → copy ≡ gone → AreLinked m →
    IsValidSolver m x → FlagsVariables size ls gone → DetachesFromTables ls m n → IsWithout copy (view x) (view y) → y.assumptions ≡ x.assumptions → IsReady y →
    ((v : ℕ) → IsDecidable (view y) y.vsids v ↔ (IsDecidable (view x) x.vsids v × (leaves copy v ≡ false))) → HaveLeft m n x y gone ls size
have-left m n x y copy gone ls size e linked kept flags tables without assumptions ready decidable = record {
  linked = linked;
  kept = kept;
  flags = flags;
  tables = tables;
  without = subst (λ fs. IsWithout fs (view x) (view y)) e without;
  assumptions = assumptions;
  ready = ready;
  decidable = λ v. subst (λ fs. IsDecidable (view y) y.vsids v ↔ (IsDecidable (view x) x.vsids v × (leaves fs v ≡ false))) e (decidable v);
}

module _ {A : Type 0} {m n : Tables} {x y : Context A} {gone : List Bool} {ls : List Literal} {size : ℕ} (h : HaveLeft m n x y gone ls size) where
  pub values-left : length y.assignment.current ≡ length x.assignment.current
  values-left = ap (λ (s : View). length s.values) h.without.rest ∙ cleared-length gone None x.assignment.current

  -- where the flag of a variable is not set, it is of none of the literals
  pub other-than : (v : ℕ) → leaves gone v ≡ false → (l : Literal) → l ∈ ls → variable_of l ≢ v
  other-than v e l i q = let z : true ≡ false = sym ((h.flags.flagged v).1 (l, i, q)) ∙ e in cc

  in-use : DecidesInUse n (view y) y.vsids
  in-use v = (
    λ d.
        let (e, st) = (h.decidable v).0 d in
        subst IsSome (sym (h.tables.stays v (other-than v st))) ((h.kept.decidable v).0 e),
    λ d.
        let (z, e) = is-there (at n.solvers.backward v) d in
        (h.decidable v).1 (
          (h.kept.decidable v).1 (subst IsSome (sym (h.tables.fewer v z e)) refl),
          false_from_ne_true (leaves gone v) (λ o.
              let (l, i, q) = (h.flags.flagged v).0 o in
              let r : None ≡ Some z = sym (h.tables.gone v l i q) ∙ e in
              cc),
        ),
  )

  -- where none of them is of a global variable that has a name and is assumed, the solver is kept
  module _ (apart : (l : Literal) (z u : ℕ) → l ∈ ls → at m.solvers.backward (variable_of l) ≡ Some z → at m.users.backward z ≡ Some u →
      (data_at m.kept z).assumed ≡ true → ⊥) where
    assumed-kept : (z u : ℕ) → at m.users.backward z ≡ Some u → (data_at m.kept z).assumed ≡ true → data_at n.kept z ≡ data_at m.kept z
    assumed-kept z u g a = h.tables.others z (λ l i e. apart l z u i e g a)

    assumed-there : (v z u : ℕ) → at m.solvers.backward v ≡ Some z → at m.users.backward z ≡ Some u → (data_at m.kept z).assumed ≡ true →
        at n.solvers.backward v ≡ Some z
    assumed-there v z u e g a = h.tables.stays v (λ l i o. apart l z u i (ap (at m.solvers.backward) o ∙ e) g a) ∙ e

    pub kept-left : IsValidSolver n y
    kept-left = record {
      bounded = (
          let b = ap (λ (b : BiMap). length b.forward) h.tables.users in
          let c = h.tables.count in
          let v = h.tables.solvers in
          let k = h.kept.bounded in
          record { users = omega (arith, b, k.users); globals = omega (arith, c, k.globals); solvers = omega (arith, v, k.solvers) });
      ready = h.ready;
      count = values-left ∙ h.kept.count ∙ sym h.tables.solvers;
      decidable = in-use;
      assumed = λ l i. subst (λ (b : BiMap). IsSome (at b.forward (variable_of l))) (sym h.tables.users)
          (h.kept.assumed l (subst (λ (as' : AssumptionParts). l ∈ as'.user) h.assumptions i));
      marked = λ l z i e.
          let named = ap (λ (b : BiMap). at b.forward (variable_of l)) (sym h.tables.users) ∙ e in
          let was = h.kept.marked l z (subst (λ (as' : AssumptionParts). l ∈ as'.user) h.assumptions i) named in
          ap (λ (d : VarData). d.assumed) (assumed-kept z (variable_of l) (h.linked.users.there (variable_of l) z named) was) ∙ was;
      working = λ l i.
          let (z, u, e, g, a) = h.kept.working l (subst (λ (as' : AssumptionParts). l ∈ as'.working) h.assumptions i) in (
            z,
            u,
            assumed-there (variable_of l) z u e g a,
            ap (λ (b : BiMap). at b.backward z) h.tables.users
                ∙ g,
            ap (λ (d : VarData). d.assumed) (assumed-kept z u g a) ∙ a,
          );
    }

  -- What is left on the trail is over assumed variables, where what was there and is not flagged was.
  pub over-left : ((l : Literal) → l ∈ x.trail.literals → leaves gone (variable_of l) ≡ false →
      leads_to_unassumed m (at m.solvers.backward (variable_of l)) ≡ false) → AreOverAssumed n y.trail.literals
  over-left over l i = go (at m.solvers.backward (variable_of l)) refl
    where
      before : (l ∈ x.trail.literals) × (leaves gone (variable_of l) ≡ false)
      before = staying-was gone x.trail.literals l (subst (λ ls. l ∈ ls) (ap (λ (s : View). s.trail) h.without.rest) i)

      go : (o : Option ℕ) → at m.solvers.backward (variable_of l) ≡ o → leads_to_unassumed n (at n.solvers.backward (variable_of l)) ≡ false
      go None e = ap (leads_to_unassumed n) (h.tables.stays (variable_of l) (other-than (variable_of l) before.1) ∙ e)
      go (Some z) e =
          let same = h.tables.others z (λ j a q. other-than (variable_of l) before.1 j a
          (let r : Some (variable_of j) ≡ Some (variable_of l) = sym (h.linked.solvers.back z (variable_of j) q)
          ∙ h.linked.solvers.back z (variable_of l) e in cc)) in
          ap (leads_to_unassumed n) (h.tables.stays (variable_of l) (other-than (variable_of l) before.1) ∙ e)
          ∙ ap (λ (d : VarData). not d.assumed) same ∙ sym (ap (leads_to_unassumed m) e) ∙ over l before.0 before.1

-- The variables on the trail of a simplified search that are not assumed, as they leave it.

-- a variable stands there that is not assumed
pub unassumed-global : (m : Tables) (o : Option ℕ) → leads_to_unassumed m o ≡ true → (x : ℕ) × (o ≡ Some x) × ((data_at m.kept x).assumed ≡ false)
unassumed-global m None e = absurd cc
unassumed-global m (Some x) e = (x, refl, go (data_at m.kept x).assumed e)
  where
    go : (b : Bool) → not b ≡ true → b ≡ false
    go true h = let z : false ≡ true = h in absurd cc
    go false h = refl

-- there is an entry
some-inside : (vs : List (Option Bool)) (v : ℕ) (b : Bool) → slice_index_or vs v None ≡ Some b → v < length vs
some-inside [] v b e = absurd (let z : None ≡ Some b = e in cc)
some-inside (o ∷ vs) zero b e = omega arith
some-inside (o ∷ vs) (suc v) b e = let h = some-inside vs v b e in omega (arith, h)

-- A search whose root level is simplified.
module _ (s : View) (w : WellFormed s) (d : IsRootSimplified s) where
  pub on-value : (l : Literal) → l ∈ s.trail → slice_index_or s.values (variable_of l) None ≡ Some (polarity_of l)
  on-value l h = let (k, a, e) = place_in l s.trail 0 h in subst (λ m. slice_index_or s.values (variable_of m) None ≡ Some (polarity_of m)) e (w.is_true k a)

  pub on-inside : (l : Literal) → l ∈ s.trail → variable_of l < length s.values
  on-inside l h = some-inside s.values (variable_of l) (polarity_of l) (on-value l h)

  level-none : (l : Literal) → l ∈ s.trail → level_of s l ≡ 0
  level-none l h =
      let (k, a, e) = place_in l s.trail 0 h in
      let b = w.levels_to k a in
      let none = ap (λ (xs : List ℕ). length xs) d.undecided in
      let z : (node_at s k).level ≡ 0 = omega (arith, b, none) in
      subst (λ m. level_of s m ≡ 0) e z

  reason-unit : (l : Literal) → l ∈ s.trail → (node_of s l).reason ≡ reason.Unit
  reason-unit l h = let (k, a, e) = place_in l s.trail 0 h in subst (λ m. (node_of s m).reason ≡ reason.Unit) e (d.proved k a)

  pub on-fixed : (l : Literal) → l ∈ s.trail → l ∈ (search_of s).fixed
  on-fixed l h = filter-∈ (is_fixed s) s.trail l h (eq-eqb (level_of s l) 0 (level-none l h))

  pub on-proved : (l : Literal) → l ∈ s.trail → l ∈ (search_of s).proved
  on-proved l h = filter-∈ (is_proved s) s.trail l h (ap₂ (λ n r. nat_eq n 0 && not (is_clause r)) (level-none l h) (reason-unit l h))

  module _ (m : Tables) (gone : List Bool) (f : FlagsVariables (length s.values) (unassumed_among m s.trail) gone) where
    -- a variable that leaves has a literal on the trail, and is not assumed
    pub leaving-literal : (v : ℕ) → leaves gone v ≡ true → (l : Literal) × (l ∈ s.trail) × (variable_of l ≡ v)
        × (leads_to_unassumed m (at m.solvers.backward v) ≡ true)
    leaving-literal v e =
        let (l, h, q) = (f.flagged v).0 e in
        let (on, u) = ∈-filter (λ l. leads_to_unassumed m (at m.solvers.backward (variable_of l))) s.trail l h in
        (l, on, q, subst (λ z. leads_to_unassumed m (at m.solvers.backward z) ≡ true) q u)

    pub unmentioned : (c : Clause) → c ∈ kept s → AreStaying gone c
    unmentioned c h l i = false_from_ne_true (leaves gone (variable_of l)) (λ e.
        let (k, on, q, u) = leaving-literal (variable_of l) e in
        let z : Some (polarity_of k) ≡ None = sym (on-value k on) ∙ ap (λ v. slice_index_or s.values v None) q ∙ d.unassigned c h l i in
        cc)

    pub assumed-stay : (ls : List Literal) →
        ((l : Literal) → l ∈ ls → (x : ℕ) × (at m.solvers.backward (variable_of l) ≡ Some x) × ((data_at m.kept x).assumed ≡ true)) → AreStaying gone ls
    assumed-stay ls n l i = false_from_ne_true (leaves gone (variable_of l)) (λ e.
        let (k, on, q, u) = leaving-literal (variable_of l) e in
        let (x, a, b) = n l i in
        let z : true ≡ false = sym u ∙ ap (leads_to_unassumed m) a ∙ ap not b in
        cc)

    -- it is one of those that are dropped
    pub is-dropped : (v : ℕ) → leaves gone v ≡ true → v ∈ map variable_of (unassumed_among m s.trail)
    is-dropped v e = let (l, h, q) = (f.flagged v).0 e in subst (λ z. z ∈ map variable_of (unassumed_among m s.trail)) q
        (∈-map variable_of l (unassumed_among m s.trail) h)

    pub dropped-is : (v : ℕ) → v ∈ map variable_of (unassumed_among m s.trail) → leaves gone v ≡ true
    dropped-is v h = let (l, i, e) = map-∈ variable_of v (unassumed_among m s.trail) h in (f.flagged v).1 (l, i, sym e)

    stays-of : (l : Literal) → leaves gone (variable_of l) ≡ false → variable_of l ∈ map variable_of (unassumed_among m s.trail) → ⊥
    stays-of l e h = let z : true ≡ false = sym (dropped-is (variable_of l) h) ∙ e in cc

    pub without-these : (t : View) → search_of t ≡ search_without gone (search_of s) →
        AreWithout (λ v. slice_index_or s.values v None) (map variable_of (unassumed_among m s.trail)) (search_of s) (search_of t)
    without-these t e = subst (λ (y : Search). AreWithout (λ v. slice_index_or s.values v None) (map variable_of (unassumed_among m s.trail))
        (search_of s) y) (sym e) (record {
          kept = refl;
          unmentioned = λ v i k h. not_mentioned v k.clause
              (λ l j q. let z : true ≡ false = sym (dropped-is v i) ∙ ap (leaves gone) (sym q) ∙ unmentioned k.clause (of-kept s k h) l j in cc);
          stays = λ l i. go l i (leaves gone (variable_of l)) refl;
          fixed = λ l i. let (y, z) = staying-was gone (search_of s).fixed l i in (y, stays-of l z);
          proved = λ l i. let (y, z) = staying-was gone (search_of s).proved l i in (y, stays-of l z);
          units = λ v b i q.
              let (l, on, r, u) = leaving-literal v (dropped-is v i) in
              let same : Some (polarity_of l) ≡ Some b = sym (on-value l on) ∙ ap (λ x. slice_index_or s.values x None) r ∙ q in
              let sign : polarity_of l ≡ b = cc in
              subst (λ k. k ∈ (search_of s).proved) (literal-is l v b r sign) (on-proved l on);
        })
      where
        go : (l : Literal) → l ∈ (search_of s).fixed → (b : Bool) → leaves gone (variable_of l) ≡ b → (l ∈ staying gone (search_of s).fixed)
            ⊎ ((variable_of l ∈ map variable_of (unassumed_among m s.trail)) × (slice_index_or s.values (variable_of l) None ≡ Some (polarity_of l)))
        go l i true e = inr (is-dropped (variable_of l) e, on-value l (∈-filter (is_fixed s) s.trail l i).0)
        go l i false e = inl (was-staying gone (search_of s).fixed l i e)

        literal-is : (l v : ℕ) (b : Bool) → variable_of l ≡ v → polarity_of l ≡ b → l ≡ literal_of v b
        literal-is l v b e q = sym (literal-parts l) ∙ ap₂ literal_of e q

  pub unassumed-distinct : (m : Tables) → IsDistinct (map variable_of (unassumed_among m s.trail))
  unassumed-distinct m = distinct-left (λ l. leads_to_unassumed m (at m.solvers.backward (variable_of l))) s.trail (variables-distinct s w)

-- those that are listed are in use
pub unassumed-taken : (m : Tables) (ls : List Literal) (l : Literal) → l ∈ unassumed_among m ls → IsSome (at m.solvers.backward (variable_of l))
unassumed-taken m ls l h =
    let (on, u) = ∈-filter (λ l. leads_to_unassumed m (at m.solvers.backward (variable_of l))) ls l h in
    let (x, e, n) = unassumed-global m (at m.solvers.backward (variable_of l)) u in
    subst IsSome (sym e) refl

-- What a solver keeps, and represents, once the variables on the trail that are not assumed left.
module _ {A : Type 0} {m n : Tables} {x y : Context A} {gone : List Bool}
    (h : HaveLeft m n x y gone (unassumed_among m x.trail.literals) (length x.assignment.current)) where
  listed-free : (l : Literal) → l ∈ unassumed_among m x.trail.literals → (z : ℕ) → at m.solvers.backward (variable_of l) ≡ Some z →
      (data_at m.kept z).assumed ≡ false
  listed-free l i z e =
      let (on, u) = ∈-filter (λ l. leads_to_unassumed m (at m.solvers.backward (variable_of l))) x.trail.literals l i in
      let (w, q, free) = unassumed-global m (at m.solvers.backward (variable_of l)) u in
      let r : Some w ≡ Some z = sym q ∙ e in
      subst (λ z. (data_at m.kept z).assumed ≡ false) (let o : w ≡ z = cc in o) free

  pub kept-dropped : IsValidSolver n y
  kept-dropped = kept-left h (λ l z u i e g a. let r : true ≡ false = sym a ∙ listed-free l i z e in cc)

  -- no variable that is not assumed has a literal on the trail any more
  pub none-left : AreOverAssumed n y.trail.literals
  none-left = over-left h (λ l on e. false_from_ne_true (leads_to_unassumed m (at m.solvers.backward (variable_of l)))
      (λ u. other-than h (variable_of l) e l (filter-∈ (λ l. leads_to_unassumed m (at m.solvers.backward (variable_of l))) x.trail.literals l on u) refl))

-- What it represents, which the proof logs too.
module _ {A : Type 0} {p q : TracerState} {x y : Context A} {gone : List Bool}
    (h : HaveLeft p.tables q.tables x y gone (unassumed_among p.tables x.trail.literals) (length x.assignment.current)) where
  pub represents-dropped : IsRootSimplified (view x) → AreDetachedAlone (unassumed_among p.tables x.trail.literals) p q →
      search_of (view y) ≡ search_without gone (search_of (view x)) → (s : State) →
      SpacesFit (spaces_of p.tables p.proof.checker (view x) x.assumptions verdict.Unknown) s →
      (logged : List Entry) × LogsRetired s.variables s.logged logged p.proof q.proof
      × SpacesFit (spaces_of q.tables q.proof.checker (view y) y.assumptions verdict.Unknown) (with_entries logged s)
  represents-dropped d a seen s fit =
      let m = p.tables in
      let known : ℕ → Option Bool = (λ v. slice_index_or x.assignment.current v None) in
      subst (λ (as' : AssumptionParts). (logged : List Entry) × LogsRetired s.variables s.logged logged p.proof q.proof
      × SpacesFit (spaces_of q.tables q.proof.checker (view y) as' verdict.Unknown) (with_entries logged s)) (sym h.assumptions)
      (variables-left known (map variable_of (unassumed_among m x.trail.literals)) p q (view x) (view y) x.assumptions s
      (left-alone known (unassumed_among m x.trail.literals) p q
      (λ l i. on-value (view x) h.kept.ready.well d l
      (∈-filter (λ l. leads_to_unassumed m (at m.solvers.backward (variable_of l))) x.trail.literals l i).0) a)
      (without-these (view x) h.kept.ready.well d m gone h.flags (view y) seen)
      (values-left h)
      (λ v z i e. let (l, j, r) = map-∈ variable_of v (unassumed_among m x.trail.literals) i in listed-free h l j z (ap (at m.solvers.backward) (sym r) ∙ e))
      fit)

-- The hidden variables that no kept clause names, as they leave the search.

-- a variable without a name stands there
pub hidden-global : (m : Tables) (o : Option ℕ) → leads_to_hidden m o ≡ true → (x : ℕ) × (o ≡ Some x) × (at m.users.backward x ≡ None)
hidden-global m None e = absurd cc
hidden-global m (Some x) e = (x, refl, go (at m.users.backward x) e)
  where
    go : (o : Option ℕ) → is_none o ≡ true → o ≡ None
    go None h = refl
    go (Some u) h = absurd (let z : false ≡ true = h in cc)

-- one with a name does
named-there : (o : Option ℕ) → is_none o ≡ false → (u : ℕ) × (o ≡ Some u)
named-there None h = absurd (let z : true ≡ false = h in cc)
named-there (Some u) h = (u, refl)

-- Where no variable of the search is hidden none has to leave,
pub needed-shown : (m : Tables) (s : View) → AreOverAssumed m s.trail → ((v : ℕ) → leads_to_hidden m (at m.solvers.backward v) ≡ false) → HasOnlyNeeded m s
needed-shown m s over shown = record {
  assumed = over;
  needed = λ v i.
      let (x, e) = is-there (at m.solvers.backward v) i in
      let (u, o) = named-there (at m.users.backward x) (sym (ap (leads_to_hidden m) e) ∙ shown v) in
      inl (u, chain-some (at m.solvers.backward) (at m.users.backward) v x e ∙ o);
}

-- and none does.
pub none-leaves : {A : Type 0} (p : TracerState) (x : Context A) → IsValidSolver p.tables x → Detaches p x p x
none-leaves p x k = record {
  kept = k;
  within = λ c q b. b;
  count = refl;
  given = ([], logged-none p.proof);
  represents =
      λ s fit. (s.logged, leaving-nothing s.variables s.logged p.proof, fit);
}

-- several were dropped in turn, and then one more
pub released-push : (ls : List Literal) (l : Literal) (p mid q : TracerState) → AreDetached ls p mid → (x : ℕ)
    × LosesSolverVar x (variable_of l) mid q → AreDetached (ls ++ l ∷ []) p q
released-push [] l p mid q e d = (q, subst (λ t. (x : ℕ) × LosesSolverVar x (variable_of l) t q) e d, refl)
released-push (m ∷ ls) l p mid q (t, a, rest) d = (t, a, released-push ls l t mid q rest d)

-- what the proof logged meanwhile
pub released-logged : (ls : List Literal) (p q : TracerState) → AreDetached ls p q → (given : List Entry) × IsLogged p.proof given q.proof
released-logged [] p q e = ([], subst (λ (t : TracerState). IsLogged p.proof [] t.proof) (sym e) (logged-none p.proof))
released-logged (l ∷ ls) p q (mid, (x, loses), rest) =
    let (given, logged) = released-logged ls mid q rest in
    let first = retires_if_deleted mid.tables x in
    (first ++ given, logged-more p.proof mid.proof q.proof first given loses.logged logged)

-- as the laws of dropping say it, where no value is fixed
released-left : (ls : List Literal) (p q : TracerState) → AreDetached ls p q → AreLeft (λ v. None) (map variable_of ls) p q
released-left [] p q e = e
released-left (l ∷ ls) p q (mid, a, rest) = (mid, a, released-left ls mid q rest)

module _ (m : Tables) (mentioned : List Bool) (ls : List Literal) (u : ListsUnneeded m mentioned ls) where
  listed-is : (l : Literal) → l ∈ ls → (variable_of l < length mentioned) × (slice_index_or mentioned (variable_of l) false ≡ false)
      × (leads_to_hidden m (at m.solvers.backward (variable_of l)) ≡ true)
  listed-is l h = (u.listed (variable_of l)).0 (∈-map variable_of l ls h)

  pub unneeded-inside : (l : Literal) → l ∈ ls → variable_of l < length mentioned
  unneeded-inside l h = (listed-is l h).0

  unneeded-hidden : (l : Literal) → l ∈ ls → (x : ℕ) × (at m.solvers.backward (variable_of l) ≡ Some x) × (at m.users.backward x ≡ None)
  unneeded-hidden l h = let (a, b, d) = listed-is l h in hidden-global m (at m.solvers.backward (variable_of l)) d

  pub unneeded-taken : (l : Literal) → l ∈ ls → IsSome (at m.solvers.backward (variable_of l))
  unneeded-taken l h = let (x, q, n) = unneeded-hidden l h in subst IsSome (sym q) refl

  -- a global variable with a name is of none of them
  not-named : (l : Literal) (z v : ℕ) → l ∈ ls → at m.solvers.backward (variable_of l) ≡ Some z → at m.users.backward z ≡ Some v → ⊥
  not-named l z v h q e =
      let (x, r, n) = unneeded-hidden l h in
      let i : Some x ≡ Some z = sym r ∙ q in
      let o : None ≡ Some v = sym n ∙ ap (at m.users.backward) (let j : x ≡ z = cc in j) ∙ e in
      cc

  module _ (s : View) (gone : List Bool) (p : FlagsMentioned s mentioned) (f : FlagsVariables (length mentioned) ls gone) where
    leaving : (v : ℕ) → leaves gone v ≡ true → v ∈ map variable_of ls
    leaving v e = let (l, h, q) = (f.flagged v).0 e in subst (λ z. z ∈ map variable_of ls) q (∈-map variable_of l ls h)

    leaves-listed : (v : ℕ) → v ∈ map variable_of ls → leaves gone v ≡ true
    leaves-listed v h = let (l, i, e) = map-∈ variable_of v ls h in (f.flagged v).1 (l, i, sym e)

    stays-unlisted : (l : Literal) → leaves gone (variable_of l) ≡ false → variable_of l ∈ map variable_of ls → ⊥
    stays-unlisted l e h = let z : true ≡ false = sym (leaves-listed (variable_of l) h) ∙ e in cc

    pub unneeded-unmentioned : (c : Clause) → c ∈ kept s → AreStaying gone c
    unneeded-unmentioned c h l i = false_from_ne_true (leaves gone (variable_of l)) (λ e.
        let (a, b, d) = (u.listed (variable_of l)).0 (leaving (variable_of l) e) in
        let z : false ≡ true = sym b ∙ (p.flagged (variable_of l)).1 (c, h, l, i, refl) in
        cc)

    pub named-stay : (ks : List Literal) → ((l : Literal) → l ∈ ks → IsAssumedSolver m (variable_of l)) → AreStaying gone ks
    named-stay ks n l i = false_from_ne_true (leaves gone (variable_of l)) (λ e.
        let (j, h, q) = (f.flagged (variable_of l)).0 e in
        let (z, v, a, b, r) = n l i in
        not-named j z v h (ap (at m.solvers.backward) q ∙ a) b)

    -- where those that leave are not assumed, none of them is true at level 0
    without-unneeded : (t : View) → AreOverAssumed m s.trail →
        ((v z : ℕ) → v ∈ map variable_of ls → at m.solvers.backward v ≡ Some z → (data_at m.kept z).assumed ≡ false) →
        search_of t ≡ search_without gone (search_of s) → AreWithout (λ v. None) (map variable_of ls) (search_of s) (search_of t)
    without-unneeded t over free e = subst (λ (y : Search). AreWithout (λ v. None) (map variable_of ls) (search_of s) y) (sym e) (record {
      kept = refl;
      unmentioned = λ v i k h. not_mentioned v k.clause
          (λ l j q. let z : true ≡ false = sym (leaves-listed v i) ∙ ap (leaves gone) (sym q) ∙ unneeded-unmentioned k.clause (of-kept s k h) l j in cc);
      stays = λ l i. inl (was-staying gone (search_of s).fixed l i (not-leaving l (∈-filter (is_fixed s) s.trail l i).0));
      fixed = λ l i. let (y, z) = staying-was gone (search_of s).fixed l i in (y, stays-unlisted l z);
      proved = λ l i. let (y, z) = staying-was gone (search_of s).proved l i in (y, stays-unlisted l z);
      units = λ v b i q. absurd (let z : None ≡ Some b = q in cc);
    })
      where
        not-leaving : (l : Literal) → l ∈ s.trail → leaves gone (variable_of l) ≡ false
        not-leaving l on = false_from_ne_true (leaves gone (variable_of l)) (λ a.
            let i = leaving (variable_of l) a in
            let (b, c, d) = (u.listed (variable_of l)).0 i in
            let (z, q, n) = hidden-global m (at m.solvers.backward (variable_of l)) d in
            let r : true ≡ false = sym (ap not (free (variable_of l) z i q)) ∙ sym (ap (leads_to_unassumed m) q) ∙ over l on in
            cc)

-- What a solver keeps, and represents, once they left.
module _ {A : Type 0} {m n : Tables} {x y : Context A} {mentioned gone : List Bool} {ls : List Literal} (over : AreOverAssumed m x.trail.literals)
    (p : FlagsMentioned (view x) mentioned) (u : ListsUnneeded m mentioned ls) (h : HaveLeft m n x y gone ls (length mentioned)) where
  pub kept-released : IsValidSolver n y
  kept-released = kept-left h (λ l z v i e g a. not-named m mentioned ls u l z v i e g)

  -- a variable in use has a name, or a kept clause names it
  needed : (v : ℕ) → IsSome (at n.solvers.backward v) → HasUser n v ⊎ IsMentioned (kept (view y)) v
  needed v i =
      let (z, e) = is-there (at n.solvers.backward v) i in
      let was = h.tables.fewer v z e in
      let inside : v < length mentioned = (let a = at-inside m.solvers.backward v z was in let b = h.kept.count in let c = p.count in omega (arith, a, b, c)) in
      go z e was inside (slice_index_or mentioned v false) refl (leads_to_hidden m (at m.solvers.backward v)) refl
    where
      go : (z : ℕ) → at n.solvers.backward v ≡ Some z → at m.solvers.backward v ≡ Some z → v < length mentioned → (a : Bool) →
          slice_index_or mentioned v false ≡ a → (b : Bool) → leads_to_hidden m (at m.solvers.backward v) ≡ b → HasUser n v ⊎ IsMentioned (kept (view y)) v
      go z e was inside true a b q = inr (subst (λ cs. IsMentioned cs v) (sym (ap kept h.without.rest)) ((p.flagged v).0 a))
      go z e was inside false a true q =
          let (l, i, o) = map-∈ variable_of v ls ((u.listed v).1 (inside, a, q)) in
          let r : None ≡ Some z = sym (h.tables.gone v l i (sym o)) ∙ e in
          absurd cc
      go z e was inside false a false q =
          let (t, o) = named-there (at m.users.backward z) (sym (ap (leads_to_hidden m) was) ∙ q) in
          inl (t, chain-some (at n.solvers.backward) (at n.users.backward) v z e ∙ ap (λ (b : BiMap). at b.backward z) h.tables.users ∙ o)

  pub needed-left : HasOnlyNeeded n (view y)
  needed-left = record { assumed = over-left h (λ l on e. over l on); needed = needed }

-- What it represents, which the proof logs too.
module _ {A : Type 0} {p q : TracerState} {x y : Context A} {mentioned gone : List Bool} {ls : List Literal}
    (over : AreOverAssumed p.tables x.trail.literals) (f : FlagsMentioned (view x) mentioned) (u : ListsUnneeded p.tables mentioned ls)
    (h : HaveLeft p.tables q.tables x y gone ls (length mentioned)) where
  pub represents-released : AreDetached ls p q → search_of (view y) ≡ search_without gone (search_of (view x)) → (s : State) →
      SpacesFit (spaces_of p.tables p.proof.checker (view x) x.assumptions verdict.Unknown) s →
      (logged : List Entry) × LogsRetired s.variables s.logged logged p.proof q.proof
      × SpacesFit (spaces_of q.tables q.proof.checker (view y) y.assumptions verdict.Unknown) (with_entries logged s)
  represents-released a seen s (c, links) =
      let m = p.tables in
      let free : (v z : ℕ) → v ∈ map variable_of ls → at m.solvers.backward v ≡ Some z →
      (data_at m.kept z).assumed ≡ false = (λ v z i e. false_from_ne_true (data_at m.kept z).assumed (λ t.
      let (l, g, r) = links.marks.only z t in
      let (j, k, o) = map-∈ variable_of v ls i in
      not-named m mentioned ls u j z (variable_of l) k (ap (at m.solvers.backward) (sym o) ∙ e) (h.linked.users.there (variable_of l) z r))) in
      subst (λ (as' : AssumptionParts). (logged : List Entry) × LogsRetired s.variables s.logged logged p.proof q.proof
      × SpacesFit (spaces_of q.tables q.proof.checker (view y) as' verdict.Unknown) (with_entries logged s)) (sym h.assumptions)
      (variables-left (λ v. None) (map variable_of ls) p q (view x) (view y) x.assumptions s (released-left ls p q a)
      (without-unneeded m mentioned ls u (view x) gone f h.flags (view y) over free seen) (values-left h) free (c, links))

-- Of each hidden variable below n whose flag is not set there is one literal.
pub record ListsBelow (n : ℕ) (t : Tables) (flags : List Bool) (ls : List Literal) : Type 0 where
  pub distinct : IsDistinct (map variable_of ls)
  pub listed : (v : ℕ) → (v ∈ map variable_of ls) ↔ ((v < n) × (slice_index_or flags v false ≡ false) × (leads_to_hidden t (at t.solvers.backward v) ≡ true))

pub lists-none : (t : Tables) (flags : List Bool) → ListsBelow 0 t flags []
lists-none t flags = record { distinct = tt; listed = λ v. (λ h. absurd h, λ (a, b, c). absurd (omega (arith, a))) }

pub lists-one : (n : ℕ) (t : Tables) (flags : List Bool) (ls : List Literal) (l : Literal) → ListsBelow n t flags ls → variable_of l ≡ n →
    slice_index_or flags n false ≡ false → leads_to_hidden t (at t.solvers.backward n) ≡ true → ListsBelow (n + 1) t flags (ls ++ l ∷ [])
lists-one n t flags ls l a e p q = record {
  distinct = subst IsDistinct (sym (map-append variable_of ls (l ∷ [])))
      (distinct-more (map variable_of ls) (variable_of l) a.distinct (λ h. let (b, c, d) = (a.listed (variable_of l)).0 h in absurd (omega (arith, b, e))));
  listed = λ v. (
    λ h. ⊎_elim
        (λ i. let (b, c, d) = (a.listed v).0 i in (omega (arith, b), c, d))
        (λ i. ⊎_elim
        (λ o. let r : n ≡ v = sym e ∙ sym o in
        (omega (arith, r), subst (λ w. slice_index_or flags w false ≡ false) r p, subst (λ w. leads_to_hidden t (at t.solvers.backward w) ≡ true) r q))
        (λ z. absurd z) i)
        (∈-append_cases v (map variable_of ls) (variable_of l ∷ []) (subst (λ vs. v ∈ vs) (map-append variable_of ls (l ∷ [])) h)),
    λ (b, c, d). subst (λ vs. v ∈ vs) (sym (map-append variable_of ls (l ∷ []))) (⊎_elim
        (λ o. ∈-append_right v (map variable_of ls) (variable_of l ∷ []) (inl (o ∙ sym e)))
        (λ o. ∈-append_left v (map variable_of ls) (variable_of l ∷ []) ((a.listed v).1 (omega (arith, b, o), c, d)))
        (equal_or_not v n)),
  );
}

pub lists-pass : (n : ℕ) (t : Tables) (flags : List Bool) (ls : List Literal) → ListsBelow n t flags ls →
    (slice_index_or flags n false ≡ false → leads_to_hidden t (at t.solvers.backward n) ≡ true → ⊥) → ListsBelow (n + 1) t flags ls
lists-pass n t flags ls a k = record {
  distinct = a.distinct;
  listed = λ v. (
    λ h. let (b, c, d) = (a.listed v).0 h in (omega (arith, b), c, d),
    λ (b, c, d). ⊎_elim
        (λ o. absurd (k (subst (λ w. slice_index_or flags w false ≡ false) o c) (subst (λ w. leads_to_hidden t (at t.solvers.backward w) ≡ true) o d)))
        (λ o. (a.listed v).1 (omega (arith, b, o), c, d))
        (equal_or_not v n),
  );
}

pub lists-all : (t : Tables) (flags : List Bool) (ls : List Literal) (n : ℕ) → n ≡ length flags → ListsBelow n t flags ls → ListsUnneeded t flags ls
lists-all t flags ls n e a = subst (λ k. ListsBelow k t flags ls → ListsUnneeded t flags ls) (sym e)
    (λ b. record { distinct = b.distinct; listed = b.listed }) a
