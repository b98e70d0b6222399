-- A solver variable leaves the search: the links between what is held and the state stay.
use Rattle.std.proofs.Common.{◌≡◌, ◌≢◌, ℕ, not, Bool, true, false, List, [], ◌∷◌, ◌++◌, inl, inr, ⊎_elim, sym, ap, ◌∙◌, subst, refl, map, Option, Some, None, ◌⊎◌, ap₂}
use Rattle.varisat_theory.specs.promises.Membership.{◌∈◌}
use Rattle.varisat_theory.specs.promises.Literals.{Literal, Clause, variable_of, opposite, IsUnit, Assignment, literal_of, SatisfiesAll}
use Rattle.varisat_theory.specs.promises.Held.{SameClauses, mentions, unless, without}
use Rattle.varisat_theory.specs.promises.Renaming.{rename}
use Rattle.varisat_theory.specs.promises.Searches.{KeptClause, Search, clauses_of, Fits, IsCoveredBySearch, Tautology, KnownTrue, FixedTrue, Kept, IsLiteralOf}
use Rattle.varisat_theory.proofs.clauses.Members.{∈-append_cases, equal_or_not, ∈-append_left, ∈-append_right}
use Rattle.varisat_theory.proofs.journals.HeldRetirements.{mentioned_literal, literal_mentioned, without_less}
use Rattle.varisat_theory.proofs.steps.SearchFits.{clause_from}
use Rattle.varisat_theory.proofs.clauses.Held.{same_clauses-back, same_clauses_find}
use Rattle.varisat_theory.proofs.journals.Renaming.{∈-map, map-∈}
use Rattle.varisat_tracer.specs.promises.Carried.{carry}
use Rattle.varisat_solver.specs.inside.Spaces.{Translation, IsDischargedBy, Spaces, Carrying, UnitsFit, IsolationCase, NotIsolated, Apart, Forced, IsolationFits, AssumptionsFit, IsKnownTrue, SharesHeld, SearchHolds, without_core, translation, Links}
use Rattle.varisat_tracer.specs.inside.RenamedEntries.{carry-opposites}
use Rattle.varisat_solver.proofs.entries.ReachedHeld.{only, only-is, mentioned, left-apart, same-apart, inside-apart, live-apart, in-use-lives}
use Rattle.varisat_theory.proofs.steps.StepRetirements.{variable_is_retired}
use Rattle.varisat_theory.proofs.journals.StepCovers.{detached_are_covered}
use Rattle.varisat_literals.specs.promises.Numbers.{polarity_of}
use Rattle.varisat_theory.proofs.clauses.Values.{variable-literal}
use Rattle.varisat_prop.proofs.trails.LiteralValues.{polarity-literal}
use Rattle.varisat_names.specs.promises.Maps.{updated, onward, chain}
use Rattle.varisat_names.specs.declared.variables.data.VarData.{VarData}
use Rattle.varisat_names.proofs.Maps.{updated-at, updated-other, updated-all, parted, chain-some, chain-none, chain-through}
use Rattle.varisat_solver.specs.promises.States.{State}
use Rattle.varisat_solver.specs.inside.Carried.{AgreesAlong, is_value, is_forced}
use Rattle.varisat_solver.proofs.calls.Carried.{carry-at, carry-sign, literal-parts, forced-value}
use Rattle.varisat_solver.proofs.calls.SpacesAgree.{identities-same, modes-same, marks-same, working-same, carry-same, value-same, settled-through}
use Rattle.varisat_solver.proofs.modes.VariableMoves.{leave_search}
use Rattle.varisat_solver.proofs.modes.HiddenStates.{field-same, identity-named}
use Rattle.varisat_theory.specs.inside.Outcomes as outcome
use Rattle.varisat_theory.proofs.journals.Journals.{unit_renamed}

-- Clauses that mention a variable, which are forgotten as it leaves. Its unit clause is one of them.

pub not-over : (v : ℕ) (c : Clause) (l : Literal) → mentions v c ≡ false → l ∈ c → variable_of l ≢ v
not-over v c l n h e = let z : true ≡ false = sym (mentioned v c l h e) ∙ n in cc

-- those that mention the variable
only-with : (v : ℕ) (P : List Clause) (c : Clause) → c ∈ P → mentions v c ≡ true → c ∈ only v P
only-with v [] c h e = absurd h
only-with v (d ∷ P) c (inl q) e = subst (λ b. c ∈ unless (not b) d (only v P)) (sym (ap (mentions v) (sym q) ∙ e)) (inl q)
only-with v (d ∷ P) c (inr h) e = go (mentions v d) (only-with v P c h e)
  where
    go : (b : Bool) → c ∈ only v P → c ∈ unless (not b) d (only v P)
    go true i = inr i
    go false i = i

-- a unit clause of the variable is among those that are forgotten
pub unit-forgotten : (f : Literal → Literal) (l : Literal) (held all : List Clause) (d : Clause) → SameClauses held all → d ∈ all → IsUnit l d →
    (c : Clause) × (c ∈ rename f (only (variable_of l) held)) × IsUnit (f l) c
unit-forgotten f l held all d s h u =
    let (c, i, t) = same_clauses_find all held (same_clauses-back held all s) d h in
    let unit : IsUnit l c = (t.1 l u.0, λ m j. u.1 m (t.0 m j)) in (
      map f c,
      ∈-map (map f) c (only (variable_of l) held) (only-with (variable_of l) held c i (mentioned (variable_of l) c l unit.0 refl)),
      unit_renamed f l c unit,
    )

-- What is held of a variable that no kept clause mentions says nothing more.
pub settled-with : (r : Translation) (v : ℕ) (share : List Clause) (s : Search) → Fits share s →
    ((k : KeptClause) → k ∈ s.kept → mentions v k.clause ≡ false) → (c : Clause) → c ∈ rename (carry r.identity) (only v share) → IsDischargedBy r s.fixed c
settled-with r v share s f other c h =
    let to = carry r.identity in
    let (d, i, e) = map-∈ (map to) c (only v share) h in
    let (x, j, t) = same_clauses_find share (clauses_of s.kept ++ f.others) f.same d (only-is v share d i).0 in
    subst (IsDischargedBy r s.fixed) (sym e)
    (⊎_elim
    (λ a. let (k, b, q) = clause_from s.kept x a in let (m, y, o) = mentioned_literal v d (only-is v share d i).1 in
    let z : true ≡ false = sym (literal_mentioned v x m (t.1 m y) o) ∙ ap (mentions v) (sym q) ∙ other k b in absurd cc)
    (λ a. ⊎_elim
    (λ (l, b, o). inl (to l, ∈-map to l d (t.0 l b), subst (λ m. m ∈ map to d) (carry-opposites r.identity l) (∈-map to (opposite l) d (t.0 (opposite l) o))))
    (λ (l, b, o). inr (to l, ∈-map to l d (t.0 l b), inr (l, o, refl)))
    (f.settled x a))
    (∈-append_cases x (clauses_of s.kept) f.others j))

-- The search t is s without the variable, which no kept clause mentions. `known` is the value that it has at level 0, which is held as a unit clause.
pub record IsWithout (v : ℕ) (known : Option Bool) (s t : Search) : Type 0 where
  pub kept : t.kept ≡ s.kept
  pub unmentioned : (k : KeptClause) → k ∈ s.kept → mentions v k.clause ≡ false
  pub stays : (l : Literal) → l ∈ s.fixed → (l ∈ t.fixed) ⊎ ((variable_of l ≡ v) × (known ≡ Some (polarity_of l)))
  pub fixed : (l : Literal) → l ∈ t.fixed → (l ∈ s.fixed) × (variable_of l ≢ v)
  pub proved : (l : Literal) → l ∈ t.proved → (l ∈ s.proved) × (variable_of l ≢ v)
  pub units : (b : Bool) → known ≡ Some b → literal_of v b ∈ s.proved

-- 1. Values that are forced.

forced-true : (forced : ℕ → Option Bool) (l : Literal) → forced (variable_of l) ≡ Some (polarity_of l) → is_forced forced l ≡ true
forced-true forced l e = ap (λ o. is_value o (polarity_of l)) e ∙ own (polarity_of l)
  where
    own : (b : Bool) → is_value (Some b) b ≡ true
    own true = refl
    own false = refl

-- 2. The links.

-- The variable is not assumed. Its value at level 0, if it has one, is forced from then on, and then the global variable may be isolated.
module _ (w : Carrying) (p : Spaces) (s : State) (v x i : ℕ) (known : Option Bool) (t : Search) (k : Links w p s)
    (unknown : p.outcome ≡ outcome.Unknown) (pair : p.global_from_solver v ≡ Some x) (at : w.identity x ≡ Some i) (is-counted : i ∈ s.counted)
    (unassumed : (p.kept x).assumed ≡ false) (f : IsWithout v known p.search t) where
  to : ℕ → Option ℕ
  to = chain p.global_from_solver w.identity

  to' : ℕ → Option ℕ
  to' = chain (updated p.global_from_solver v None) w.identity

  forced' : ℕ → Option Bool
  forced' = updated w.forced i known

  r' : Translation
  r' = record { identity = to'; global = w.global; forced = forced'; logged = s.logged }

  h : SearchHolds s.clauses (translation w p s.logged) p.search outcome.Unknown
  h = subst (SearchHolds s.clauses (translation w p s.logged) p.search) (ap without_core unknown) k.holds

  -- the variable leads to its identity, and then nowhere; the others lead where they led
  to-at : to v ≡ Some i
  unfolding to
  to-at = chain-some p.global_from_solver w.identity v x pair ∙ at

  to-other : (u : ℕ) → (u ≡ v → ⊥) → to' u ≡ to u
  unfolding to to'
  to-other u n = ap (λ o. onward o w.identity) (updated-other p.global_from_solver v None u n)

  in-use : (u j : ℕ) → to' u ≡ Some j → u ≡ v → ⊥
  unfolding to'
  in-use u j e q = let z : None ≡ Some j =
      sym (chain-none (updated p.global_from_solver v None) w.identity v (updated-at p.global_from_solver v None)) ∙ ap to' (sym q) ∙ e in cc

  to-before : (u j : ℕ) → to' u ≡ Some j → to u ≡ Some j
  to-before u j e = sym (to-other u (in-use u j e)) ∙ e

  same-variable : (y : ℕ) → w.identity y ≡ Some i → y ≡ x
  same-variable y e = let q : Some y ≡ Some x = sym (k.identities.one_to_one.there y i e) ∙ k.identities.one_to_one.there x i at in cc

  other-identity : (u j : ℕ) → to u ≡ Some j → (u ≡ v → ⊥) → j ≡ i → ⊥
  unfolding to
  other-identity u j e n q =
      let (y, a, b) = chain-through p.global_from_solver w.identity u j e in
      let z : Some u ≡ Some v = sym (k.solvers.one_to_one.back y u a) ∙ ap p.solver_from_global (same-variable y (b ∙ ap Some q))
      ∙ k.solvers.one_to_one.back x v pair in
      n cc

  -- a marked variable is another one, so no assumption is over the variable
  assumed-other : (g : Literal) (y : ℕ) → g ∈ p.assumptions → p.global_from_user (variable_of g) ≡ Some y → y ≡ x → ⊥
  assumed-other g y m e q = let z : true ≡ false = sym (k.marks.marked g y m e) ∙ ap (λ z. (p.kept z).assumed) q ∙ unassumed in cc

  not-working : (l : Literal) → l ∈ p.working → variable_of l ≡ v → ⊥
  unfolding to
  not-working l m e =
      let (g, b, c) = map-∈ (carry s.naming.names) (carry to l) p.assumptions
      (subst (λ ls. carry to l ∈ ls) k.assumptions.agree (k.working.part (carry to l) (∈-map (carry to) l p.working m))) in
      let (q, a) = k.assumptions.taken g b in
      let (y, y-is, z) = chain-through p.global_from_user p.solver_from_global (variable_of g) q a in
      let (j, j-is, named) = identity-named w p s (variable_of g) y k y-is in
      let same : i ≡ j = sym (carry-at to l i (ap to e ∙ to-at)) ∙ ap variable_of c ∙ carry-at s.naming.names g j named in
      assumed-other g y b y-is (same-variable y (j-is ∙ ap Some (sym same)))

  -- what was forced stays so: it was fixed
  pub still-forced : (b : Bool) → w.forced i ≡ Some b → known ≡ Some b
  unfolding to
  still-forced b e =
      let l = literal_of v b in
      let e-v = variable-literal v b in
      let sign = polarity-literal v b in
      ⊎_elim
      (λ y. absurd ((f.fixed l y).1 e-v))
      (λ (q, y). y ∙ ap Some sign)
      (f.stays l (h.fixed (λ q. let z : outcome.Unknown ≡ outcome.Unsat = q in cc) l i (ap to e-v ∙ to-at) (e ∙ ap Some (sym sign))))

  forced-on : (j : ℕ) (b : Bool) → w.forced j ≡ Some b → forced' j ≡ Some b
  unfolding forced'
  forced-on j b = updated-all (λ j o. w.forced j ≡ Some b → o ≡ Some b) w.forced i known (still-forced b) j (λ n e. e)

  literal-before : (l : Literal) → IsLiteralOf t l → IsLiteralOf p.search l
  literal-before l (inl y) = inl (f.fixed l y).0
  literal-before l (inr (c, y, z)) = inr (c, subst (λ ks. c ∈ ks) f.kept y, z)

  literal-other : (l : Literal) → IsLiteralOf t l → variable_of l ≡ v → ⊥
  literal-other l (inl y) = (f.fixed l y).1
  literal-other l (inr (c, y, z)) = not-over v c.clause l (f.unmentioned c (subst (λ ks. c ∈ ks) f.kept y)) z

  same-carried : (l : Literal) → IsLiteralOf t l → carry to l ≡ carry to' l
  same-carried l y = carry-same to to' l (sym (to-other (variable_of l) (literal-other l y)))

  carried-on : (c : Clause) → IsCoveredBySearch (carry to) (is_forced forced') t c → IsCoveredBySearch (carry to') (is_forced forced') t c
  carried-on c (Tautology a) = Tautology a
  carried-on c (KnownTrue l a e) = KnownTrue l a e
  carried-on c (FixedTrue l a b) = FixedTrue l a (subst (λ y. y ∈ c) (same-carried l (inl a)) b)
  carried-on c (Kept g a e m) = Kept g a e (λ l b. subst (λ y. y ∈ c) (same-carried l (inr (g, a, b))) (m l b))

  -- the literal of the variable that was fixed is forced
  fixed-forced : (l : Literal) → variable_of l ≡ v → known ≡ Some (polarity_of l) → is_forced forced' (carry to l) ≡ true
  unfolding forced'
  fixed-forced l q z = forced-true forced' (carry to l)
      (ap forced' (carry-at to l i (ap to q ∙ to-at)) ∙ updated-at w.forced i known ∙ z ∙ ap Some (sym (carry-sign to l)))

  agrees-with : (a b : Assignment) → AgreesAlong to' a b → AgreesAlong to a (updated b v (a i))
  agrees-with a b g u j = updated-all (λ u y. to u ≡ Some j → y ≡ a j) b v (a i)
      (λ e. let z : Some i ≡ Some j = sym to-at ∙ e in let q : i ≡ j = cc in ap a q) u (λ n e. g u j (to-other u n ∙ e))

  -- An identity that has no solver variable now had none before, unless it is that of the variable.
  none-before : (j : ℕ) → (j ≡ i → ⊥) → ((u : ℕ) → to' u ≢ Some j) → (u : ℕ) → to u ≢ Some j
  none-before j n none u e =
      ⊎_elim
      (λ q. let z : Some i ≡ Some j = sym to-at ∙ ap to (sym q) ∙ e in n (let y : j ≡ i = cc in y))
      (λ o. none u (to-other u o ∙ e))
      (equal_or_not u v)

  -- the unit clause of the variable, read by the old map, is that of its identity
  unit-literal : (b : Bool) → carry to (literal_of v b) ≡ literal_of i b
  unit-literal b =
      let l = literal_of v b in
      sym (literal-parts (carry to l)) ∙ ap₂ literal_of (carry-at to l i (ap to (variable-literal v b) ∙ to-at)) (carry-sign to l ∙ polarity-literal v b)

  unit-of : (b : Bool) → known ≡ Some b → (c : Clause) × (c ∈ rename (carry to) (only v h.held)) × IsUnit (literal_of i b) c
  unit-of b e =
      let l = literal_of v b in
      let (d, a, u) = h.holds.units l (f.units b e) in
      let (c, y, z) = unit-forgotten (carry to) l h.held (clauses_of p.search.kept ++ h.holds.others) d h.holds.same
      (∈-append_right d (clauses_of p.search.kept) h.holds.others a) u in
      (c, subst (λ n. c ∈ rename (carry to) (only n h.held)) (variable-literal v b) y, subst (λ m. IsUnit m c) (unit-literal b) z)

  -- what was true for good stays so
  known-on : (l : Literal) → IsKnownTrue (translation w p s.logged) p.search.fixed l → IsKnownTrue r' t.fixed l
  unfolding to to' forced' r'
  known-on l (inl e) = inl (forced-true forced' l (forced-on (variable_of l) (polarity_of l) (forced-value w.forced l e)))
  known-on l (inr (m, a, e)) =
      ⊎_elim
      (λ y. inr (m, y, sym (same-carried m (inl y)) ∙ e))
      (λ (q, z). inl (subst (λ y. is_forced forced' y ≡ true) e (fixed-forced m q z)))
      (f.stays m a)

  -- the clauses that mention the variable join those that were forgotten
  forgotten-on : SharesHeld r' t.fixed (without v h.held)
  unfolding to to' forced' r'
  forgotten-on =
      let before = h.logged in
      let gone = rename (carry to) (only v h.held) in
      record {
        held = before.held;
        led = before.led;
        forgotten = before.forgotten ++ gone;
        same = same-apart (translation w p s.logged) r' v h.held to-other before;
        inside = inside-apart (translation w p s.logged) r' v h.held to-other before;
        units = λ j b y e g none.
            ⊎_elim
            (λ q. let (c, a, u) = unit-of b (sym (updated-at w.forced i known) ∙ ap forced' (sym q) ∙ e) in
            (c, ∈-append_right c before.forgotten gone a, subst (λ n. IsUnit (literal_of n b) c) (sym q) u))
            (λ n. let (c, a, u) = before.units j b y (sym (updated-other w.forced i known j n) ∙ e) g (none-before j n none) in
            (c, ∈-append_left c before.forgotten gone a, u))
            (equal_or_not j i);
        live = live-apart (translation w p s.logged) v h.held (in-use-lives w p s k) before;
        settled = λ c e.
            settled-through (translation w p s.logged) r' p.search.fixed t.fixed known-on c
            (⊎_elim (before.settled c) (settled-with (translation w p s.logged) v h.held p.search h.holds f.unmentioned c)
            (∈-append_cases c before.forgotten gone e));
      }

  -- All assignments agree on the value, and what is kept of the global variable says it.
  module _ (d : VarData) (sure : (a : Assignment) → SatisfiesAll a s.clauses → (b : Bool) → known ≡ Some b → a i ≡ b)
      (logged : d ≡ record (p.kept x) { unit = known; isolated = d.isolated })
      (alone : (d.isolated ≡ (p.kept x).isolated) ⊎ ((b : Bool) × (known ≡ Some b))) where
    kept' : ℕ → VarData
    kept' = updated p.kept x d

    kept-at : kept' x ≡ d
    unfolding kept'
    kept-at = updated-at p.kept x d

    kept-other : (y : ℕ) → (y ≡ x → ⊥) → kept' y ≡ p.kept y
    unfolding kept'
    kept-other y n = updated-other p.kept x d y n

    holds-on : SearchHolds s.clauses r' t outcome.Unknown
    unfolding to to' forced' r'
    holds-on = record {
      held = without v h.held;
      holds = variable_is_retired p.search t v h.held f.kept f.unmentioned (λ l a n. ⊎_elim (λ y. y) (λ (q, z). absurd (n q)) (f.stays l a)) f.proved h.holds;
      within = λ l a. let (j, e) = h.within l (literal-before l a) in (j, to-other (variable_of l) (literal-other l a) ∙ e);
      implied = λ a b m g c e.
          let (l, y, z) = h.implied a (updated b v (a i)) m (agrees-with a b g) c (without_less v h.held c e) in
          (l, y, value-same b (updated b v (a i)) l (sym (updated-other b v (a i) (variable_of l) (left-apart v h.held c l e y))) ∙ z);
      known = λ a m j b. updated-all (λ j o. o ≡ Some b → a j ≡ b) w.forced i known (sure a m b) j (λ n e. h.known a m j b e);
      fixed = λ n l j e z.
          let before = to-before (variable_of l) j e in
          let other = in-use (variable_of l) j e in
          ⊎_elim (λ y. y) (λ (q, y). absurd (other q))
          (f.stays l (h.fixed n l j before (sym (updated-other w.forced i known j (other-identity (variable_of l) j before other)) ∙ z)));
      covered = λ n c e. carried-on c (detached_are_covered p.search t (carry to) (is_forced w.forced) (is_forced forced') s.clauses f.kept
          (λ l a. ⊎_elim inl (λ (q, z). inr (fixed-forced l q z)) (f.stays l a))
          (λ l e. forced-true forced' l (forced-on (variable_of l) (polarity_of l) (forced-value w.forced l e)))
          (h.covered n) c e);
      logged = forgotten-on;
    }

    units-on : UnitsFit w.identity forced' kept' s.counted
    unfolding forced' kept'
    units-on = record {
      unit = λ y j. updated-all (λ y a. w.identity y ≡ Some j → forced' j ≡ a.unit) p.kept x d
          (λ e. let z : Some i ≡ Some j = sym at ∙ e in let q : j ≡ i = cc in ap forced' q ∙ updated-at w.forced i known ∙ sym (ap (λ a. a.unit) logged))
          y
          (λ n e. updated-other w.forced i known j (λ q. n (same-variable y (e ∙ ap Some q))) ∙ k.units.unit y j e);
      is_counted = λ j b. updated-all (λ j o. o ≡ Some b → j ∈ s.counted) w.forced i known (λ _. is-counted) j (λ n e. k.units.is_counted j b e);
    }

    forced-here : (y j : ℕ) (b : Bool) → w.identity y ≡ Some j → y ≡ x → known ≡ Some b → forced' j ≡ Some b
    unfolding forced'
    forced-here y j b e q z = let n : Some i ≡ Some j = sym at ∙ ap w.identity (sym q) ∙ e in let m : j ≡ i = cc in ap (updated w.forced i known) m
        ∙ updated-at w.forced i known ∙ z

    isolation-on : IsolationFits w.identity forced' kept' s.clauses s.naming.made
    isolation-on j b = go (k.isolation j b)
      where
        go : IsolationCase w.identity w.forced p.kept s.clauses j → IsolationCase w.identity forced' kept' s.clauses j
        go (NotIsolated y e o) =
            ⊎_elim
            (λ q. ⊎_elim
            (λ z. NotIsolated y e (ap (λ m. (kept' m).isolated) q ∙ ap (λ a. a.isolated) kept-at ∙ z ∙ ap (λ m. (p.kept m).isolated) (sym q) ∙ o))
            (λ (b, z). Forced b (forced-here y j b e q z))
            alone)
            (λ n. NotIsolated y e (ap (λ a. a.isolated) (kept-other y n) ∙ o))
            (equal_or_not y x)
        go (Apart a) = Apart a
        go (Forced b e) = Forced b (forced-on j b e)

    assumptions-on : AssumptionsFit p.global_from_user (updated p.solver_from_global x None) s.naming.names p.assumptions s.assumptions
    assumptions-on = record {
      agree = k.assumptions.agree;
      taken = λ l m.
          let (q, a) = k.assumptions.taken l m in
          let (y, e, z) = chain-through p.global_from_user p.solver_from_global (variable_of l) q a in (
            q,
            chain-some p.global_from_user (updated p.solver_from_global x None) (variable_of l) y e
                ∙ updated-other p.solver_from_global x None y (assumed-other l y m e) ∙ z,
          );
    }

    pub left : Links (record w { forced = updated w.forced i known }) (leave_search v x t d p) s
    unfolding to to' forced' kept' r'
    left = record {
      identities = identities-same w.identity w.global p.kept kept' s.naming.made
          (field-same (λ a. a.deleted) p.kept x d (ap (λ a. a.deleted) logged)) k.identities;
      names = k.names;
      modes = modes-same w.identity p.global_from_user p.user_from_global p.global_from_user p.user_from_global p.kept kept' s.naming.modes
          (λ u. refl) (λ y. refl) (field-same (λ a. a.sampling_mode) p.kept x d (ap (λ a. a.sampling_mode) logged)) k.modes;
      watermark = k.watermark;
      globals = k.globals;
      units = units-on;
      isolation = isolation-on;
      solvers = record {
        one_to_one = parted p.solver_from_global p.global_from_solver x v k.solvers.one_to_one (k.solvers.one_to_one.back x v pair);
        live = λ u y. updated-all (λ u o. o ≡ Some y → (j : ℕ) × (w.identity y ≡ Some j) × (j ∈ s.counted)) p.global_from_solver v None
            (λ e. absurd cc) u (λ n e. k.solvers.live u y e);
      };
      holds = subst (SearchHolds s.clauses r' t) (sym (ap without_core unknown)) holds-on;
      assumptions = assumptions-on;
      marks = marks-same p.global_from_user p.global_from_user p.kept kept' p.assumptions (λ u. refl)
          (field-same (λ a. a.assumed) p.kept x d (ap (λ a. a.assumed) logged)) k.marks;
      working = working-same s.clauses to to' s.assumptions p.working (λ l m. to-other (variable_of l) (not-working l m)) k.working;
      verdict = k.verdict;
      core = k.core;
      right = k.right;
      well_formed = k.well_formed;
      few = k.few;
      shown = λ e y m. field-same (λ a. a.deleted) p.kept x d (ap (λ a. a.deleted) logged) y ∙ k.shown e y m;
      plain = k.plain;
      variables = k.variables;
      numbered = k.numbered;
      logged = k.logged;
      checked = k.checked;
    }
