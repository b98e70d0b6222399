-- Which variables stay decidable.
use Rattle.std.proofs.Common.{◌≡◌, ◌≢◌, ℕ, ◌<◌, ◌≤◌, Bool, true, false, Option, Some, None, [], ◌∷◌, ◌⊎◌, length, get_or, set, inl, inr, ⊎_elim, refl, sym, ap, ◌∙◌, subst, arith, get_or-set_same, get_or-set_other, length-set}
use Rattle.std.proofs.lemmas.Bool.{cases_lt, cases_Bool}
use Rattle.varisat_theory.specs.promises.Membership.{◌∈◌}
use Rattle.varisat_theory.specs.promises.Literals.{Literal, Clause, variable_of, opposite, literal_of}
use Rattle.varisat_theory.proofs.clauses.Members.{equal_or_not}
use Rattle.varisat_theory.proofs.clauses.Places.{∈-get_or, place_in}
use Rattle.varisat_literals.specs.promises.Numbers.{polarity_of}
use Rattle.varisat_prop.specs.declared.prop.graph.Reason.{Reason}
use Rattle.varisat_prop.specs.declared.prop.graph.Reason.TheVariants as reason
use Rattle.varisat_prop.specs.View.{View, kept, IsTrueIn, literal_at, node_at, clause_at, decision_at, Implies, IsReason, WellFormed}
use Rattle.varisat_prop.specs.Changes.{enqueued, decided_on}
use Rattle.varisat_prop.specs.Looks.{Propagates}
use Rattle.varisat_prop.proofs.pairs.KeptPairs.{implied-kept}
use Rattle.varisat_prop.proofs.views.WellFormedChanges.{kept-here}
use Rattle.varisat_prop.proofs.views.ViewGrowth.{literal-stays, grows-longer}
use Rattle.varisat_vsids.specs.Activities.{Activities, is_available}
use Rattle.varisat_search.specs.Steps.{IsCut}
use Rattle.varisat_search.specs.Decisions.{HasActivities, IsDecidable, AreDecidable, CanDecide, SameDecidable, SameDecidableBut, MakesAvailable, IsNextDecision, TakesUnassigned}
use Rattle.varisat_analysis.proofs.WellFormedViews.{kept-reordered, same-place}
use Rattle.varisat_theory.proofs.clauses.Values.{variable-literal}
use Rattle.varisat_prop.proofs.trails.LiteralValues.{polarity-literal}
use Rattle.varisat_search.proofs.stepping.StepWithoutLines.{proved_back}

pub value-or-none : (o : Option Bool) → (o ≡ None) ⊎ (o ≢ None)
value-or-none None = inl refl
value-or-none (Some b) = inr (λ e. cc)

some-value : (o : Option Bool) → o ≢ None → (b : Bool) × (o ≡ Some b)
some-value None n = absurd (n refl)
some-value (Some b) n = (b, refl)

pub same-refl : (s : View) (a : Activities) → SameDecidable s a s a
same-refl s a v = ((λ h. h), (λ h. h))

pub same-trans : (s : View) (a : Activities) (t : View) (b : Activities) (u : View) (c : Activities) → SameDecidable s a t b →
    SameDecidable t b u c → SameDecidable s a u c
same-trans s a t b u c g h v = ((λ d. (h v).0 ((g v).0 d)), (λ d. (g v).1 ((h v).1 d)))

-- one variable becomes decidable, and each that was stays so
pub still-decidable : (v : ℕ) (s : View) (a : Activities) (t : View) (b : Activities) → IsDecidable t b v → SameDecidableBut v s a t b → (w : ℕ) →
    IsDecidable s a w → IsDecidable t b w
still-decidable v s a t b d o w h = ⊎_elim (λ e. subst (IsDecidable t b) (sym e) d) (λ n. (o w n).0 h) (equal_or_not w v)

-- the values and what is available decide
pub same-read : (s : View) (a : Activities) (t : View) (b : Activities) → t.values ≡ s.values → b.available ≡ a.available → SameDecidable s a t b
same-read s a t b e f v =
    let x : get_or t.values v None ≡ get_or s.values v None = ap (λ xs. get_or xs v None) e in
    let y : is_available b v ≡ is_available a v = ap (λ xs. get_or xs v false) f in
    (⊎_elim (λ n. inl (λ z. n (sym x ∙ z))) (λ z. inr (y ∙ z)), ⊎_elim (λ n. inl (λ z. n (x ∙ z))) (λ z. inr (sym y ∙ z)))

-- the clauses that are kept then may be decided too
pub can-decide : (s : View) (a : Activities) (t : View) (b : Activities) → HasActivities t b → SameDecidable s a t b →
    ((c : Clause) → c ∈ kept t → AreDecidable s a c) → CanDecide t b
can-decide s a t b n g h = record { entries = n; decidable = λ c i l j. (g (variable_of l)).0 (h c i l j) }

-- a variable has a value where a literal of it stands on the trail
pub valued-at : (s : View) → WellFormed s → (v : ℕ) → get_or s.values v None ≢ None → (k : ℕ) × (k < length s.trail) × (variable_of (literal_at s k) ≡ v)
valued-at s w v n =
    let (b, e) = some-value (get_or s.values v None) n in
    let x = variable-literal v b in
    let on : IsTrueIn s (literal_of v b) = ap (λ y. get_or s.values y None) x ∙ e ∙ ap Some (sym (polarity-literal v b)) in
    let (k, h, f) = w.stands (literal_of v b) on in
    (k, h, ap variable_of f ∙ x)

pub at-valued : (s : View) → WellFormed s → (v k : ℕ) → k < length s.trail → variable_of (literal_at s k) ≡ v → get_or s.values v None ≢ None
at-valued s w v k h e z =
    let on = w.is_true k h in
    let f : get_or s.values (variable_of (literal_at s k)) None ≡ None = ap (λ y. get_or s.values y None) e ∙ z in
    cc

-- a literal that is made true is of a variable that was decidable
pub enqueued-same : (s : View) (a : Activities) (l : Literal) (r : Reason) → variable_of l < length s.values → IsDecidable s a (variable_of l) →
    SameDecidable s a (enqueued s l r) a
enqueued-same s a l r h d v =
    let x = Some (polarity_of l) in
    ⊎_elim
    (λ e. (
      (λ g. inl (λ z. let y = get_or-set_same s.values (variable_of l) x None h in
          let q : get_or (set s.values (variable_of l) x) (variable_of l) None ≡ None =
          ap (λ w. get_or (set s.values (variable_of l) x) w None) (sym e) ∙ z in cc)),
      (λ g. subst (IsDecidable s a) (sym e) d),
    ))
    (λ n.
    let y = get_or-set_other s.values (variable_of l) v x None n in
    (⊎_elim (λ g. inl (λ z. g (sym y ∙ z))) inr, ⊎_elim (λ g. inl (λ z. g (y ∙ z))) inr))
    (equal_or_not v (variable_of l))

module _ (s t : View) (level : ℕ) (a b : Activities) (w : WellFormed s) (c : IsCut s t level) (m : MakesAvailable s level a b) where
  valued-still : (v : ℕ) → get_or s.values v None ≢ None → IsDecidable t b v
  valued-still v n =
      let (k, h, e) = valued-at s w v n in
      ⊎_elim
      (λ o. inl (λ z. n (sym (c.stays v (λ (j, f, g, q). let i = same-place s w j k g h (q ∙ sym e) in omega (arith, i, o, f))) ∙ z)))
      (λ o. inr (m.left v (k, o, h, e)))
      (cases_lt k (decision_at s level))

  available-still : (v : ℕ) → is_available a v ≡ true → is_available b v ≡ true
  available-still v e =
      ⊎_elim
      (λ f. f)
      (λ f. let g = m.stays v (λ q. let x = m.left v q in let y : true ≡ false = sym x ∙ f in cc) in g ∙ e)
      (cases_Bool (is_available b v))

  had-value : (v : ℕ) → get_or t.values v None ≢ None → get_or s.values v None ≢ None
  had-value v n z = n (c.stays v (λ q. n (c.gone v q)) ∙ z)

  was-available : (v : ℕ) → is_available b v ≡ true → IsDecidable s a v
  was-available v e =
      ⊎_elim
      (λ z. inr (sym (m.stays v (λ (k, f, g, q). at-valued s w v k g q z)) ∙ e))
      inl
      (value-or-none (get_or s.values v None))

  pub cut-same : SameDecidable s a t b
  cut-same v = (⊎_elim (valued-still v) (λ e. inr (available-still v e)), ⊎_elim (λ n. inl (had-value v n)) (was-available v))

  pub cut-entries : HasActivities s a → HasActivities t b
  cut-entries n = record {
    activity = ap (λ (x : Activities). length x.activity) m.rest ∙ n.activity ∙ sym c.count;
    available = m.count
        ∙ n.available ∙ sym c.count;
  }

-- what was propagated is of the kept clauses
module _ (s t : View) (a : Activities) (w : WellFormed s) (d : CanDecide s a) (p : Propagates s t) where
  stays-valued : (v : ℕ) → get_or s.values v None ≢ None → get_or t.values v None ≢ None
  stays-valued v n =
      let (k, h, e) = valued-at s w v n in
      let m = grows-longer s t p.grows in
      at-valued t p.well v k (omega (arith, h, m)) (ap variable_of (literal-stays s t p.grows k h) ∙ e)

  of-literal : (c : Clause) → c ∈ kept t → AreDecidable s a c
  of-literal c i l j = let (q, k, f) = kept-reordered s t p.grows.clauses p.grows.binary c i in d.decidable q k l (f.0 l j)

  of-clause : (k : ℕ) (c : Clause) → c ∈ kept t → Implies t c k → IsDecidable s a (variable_of (literal_at t k))
  of-clause k [] i h = absurd h
  of-clause k (l ∷ c) i (e, o) = subst (λ x. IsDecidable s a (variable_of x)) e (of-literal (l ∷ c) i l (inl refl))

  of-reason : (k : ℕ) (r : Reason) → length s.trail ≤ k → k < length t.trail → (node_at t k).reason ≡ r → IsReason t k r →
      IsDecidable s a (variable_of (literal_at t k))
  of-reason k reason.Unit b h e i =
      ⊎_elim
      (λ j.
      let (x, y, z) = place_in k s.decisions 0 (subst (λ ds. k ∈ ds) p.decisions j) in
      let o = (w.decided x y).0 in
      absurd (omega (arith, o, z, b)))
      (λ j.
      let on = (proved_back s t w p.well p.grows (literal_at t k) (∈-get_or t.trail k 0 h, j, e)).0 in
      let (x, y, z) = place_in (literal_at t k) s.trail 0 on in
      inl (at-valued s w (variable_of (literal_at t k)) x y (ap variable_of z)))
      i
  of-reason k (reason.Binary ms) b h e (m, f, i, o) =
      let (c, j, g) = implied-kept t p.well (opposite m) (literal_at t k) i in
      of-literal c j (literal_at t k) (g.1 (literal_at t k) (inl refl))
  of-reason k (reason.Long q) b h e (i, j) = of-clause k (clause_at t q) (kept-here t q i) j

  was-decidable : (v : ℕ) → get_or t.values v None ≢ None → IsDecidable s a v
  was-decidable v n =
      let (k, h, e) = valued-at t p.well v n in
      ⊎_elim
      (λ o. inl (at-valued s w v k o (ap variable_of (sym (literal-stays s t p.grows k o)) ∙ e)))
      (λ o. subst (IsDecidable s a) e (of-reason k (node_at t k).reason o h refl (p.well.reason_is k h)))
      (cases_lt k (length s.trail))

  pub propagated-same : SameDecidable s a t a
  propagated-same v = (⊎_elim (λ n. inl (stays-valued v n)) inr, ⊎_elim (was-decidable v) inr)

  pub propagated-decidable : CanDecide t a
  propagated-decidable =
      let n = d.entries in
      can-decide s a t a (record { activity = n.activity ∙ sym p.grows.count; available = n.available ∙ sym p.grows.count }) propagated-same
      of-literal

-- a variable was taken out and is decided, or none is left
module _ (s : View) (a b : Activities) (d : CanDecide s a) where
  pub decided-same : (l : Literal) → variable_of l < length s.values → TakesUnassigned s.values a b (Some (variable_of l)) →
      SameDecidable s a (decided_on s l) b
  decided-same l h k v =
      let x = Some (polarity_of l) in
      let next : IsNextDecision s.values a (variable_of l) = k.found in
      let now : (v ≡ variable_of l) → get_or (set s.values (variable_of l) x) v None ≢ None = λ e z. let y =
      get_or-set_same s.values (variable_of l) x None h in let q : get_or (set s.values (variable_of l) x) (variable_of l) None ≡ None =
      ap (λ w. get_or (set s.values (variable_of l) x) w None) (sym e) ∙ z in cc in
      let other : (v ≡ variable_of l → ⊥) → get_or (set s.values (variable_of l) x) v None ≡ get_or s.values v None =
      λ n. get_or-set_other s.values (variable_of l) v x None n in
      let same = equal_or_not v (variable_of l) in (
        ⊎_elim
            (λ g. inl (⊎_elim now (λ n z. g (sym (other n) ∙ z)) same))
            (λ e. ⊎_elim (λ i. inl (now i)) (λ n. ⊎_elim
            (λ z. ⊎_elim (λ f. inl (now (some-same (variable_of l) v f))) inr (k.open_stays v e z))
            (λ g. inl (λ z. g (sym (other n) ∙ z)))
            (value-or-none (get_or s.values v None))) same),
        ⊎_elim
            (λ g. ⊎_elim (λ i. inr (ap (is_available a) i ∙ next.available)) (λ n. inl (λ z. g (other n ∙ z))) same)
            (λ e. inr (k.fewer v e)),
      )
    where
      some-same : (x y : ℕ) → Some x ≡ Some y → y ≡ x
      some-same x y e = cc

  pub none-same : TakesUnassigned s.values a b None → SameDecidable s a s b
  none-same k v = (⊎_elim inl (λ e. inl (k.found v e)), ⊎_elim inl (λ e. inr (k.fewer v e)))

  pub taken-entries : (o : Option ℕ) → TakesUnassigned s.values a b o → HasActivities s b
  taken-entries o k = let n = d.entries in
      record { activity = ap (λ (x : Activities). length x.activity) k.rest ∙ n.activity; available = k.count ∙ n.available }

  pub decided-decidable : (l : Literal) → variable_of l < length s.values → TakesUnassigned s.values a b (Some (variable_of l)) → CanDecide (decided_on s l) b
  decided-decidable l h k =
      let n = taken-entries (Some (variable_of l)) k in
      let c = length-set s.values (variable_of l) (Some (polarity_of l)) in
      can-decide s a (decided_on s l) b (record { activity = n.activity ∙ sym c; available = n.available ∙ sym c }) (decided-same l h k) d.decidable

  pub none-decidable : TakesUnassigned s.values a b None → CanDecide s b
  none-decidable k = can-decide s a s b (taken-entries None k) (none-same k) d.decidable

-- one variable more is available, or less
module _ (s : View) (a b : Activities) (v : ℕ) (n : HasActivities s a) (k : v < length s.values) where
  set-entries : (x : Bool) → b.available ≡ set a.available v x → length b.activity ≡ length a.activity → HasActivities s b
  set-entries x e f = record { activity = f ∙ n.activity; available = ap (λ xs. length xs) e ∙ length-set a.available v x ∙ n.available }

  pub made-decidable : b.available ≡ set a.available v true → IsDecidable s b v
  made-decidable e = inr (ap (λ xs. get_or xs v false) e ∙ get_or-set_same a.available v true false (let m = n.available in omega (arith, k, m)))

  pub set-others : (x : Bool) → b.available ≡ set a.available v x → SameDecidableBut v s a s b
  set-others x e w o =
      let y : is_available b w ≡ is_available a w = ap (λ xs. get_or xs w false) e ∙ get_or-set_other a.available v w x false o in
      (⊎_elim inl (λ h. inr (y ∙ h)), ⊎_elim inl (λ h. inr (sym y ∙ h)))

  pub set-undecidable : b.available ≡ set a.available v false → get_or s.values v None ≡ None → IsDecidable s b v → ⊥
  set-undecidable e z =
      let y : is_available b v ≡ false = ap (λ xs. get_or xs v false) e
      ∙ get_or-set_same a.available v false false (let m = n.available in omega (arith, k, m)) in
      ⊎_elim (λ o. o z) (λ h. let f = sym h ∙ y in cc)

  made-more : b.available ≡ set a.available v true → (w : ℕ) → IsDecidable s a w → IsDecidable s b w
  made-more e w = ⊎_elim inl (λ h. ⊎_elim (λ i. subst (IsDecidable s b) (sym i) (made-decidable e))
      (λ o. inr (ap (λ xs. get_or xs w false) e ∙ get_or-set_other a.available v w true false o ∙ h)) (equal_or_not w v))

  pub made-can : b.available ≡ set a.available v true → length b.activity ≡ length a.activity → CanDecide s a → CanDecide s b
  made-can e f d = record { entries = set-entries true e f; decidable = λ c i l j. made-more e (variable_of l) (d.decidable c i l j) }

  pub removed-can : b.available ≡ set a.available v false → length b.activity ≡ length a.activity → CanDecide s a →
      ((c : Clause) → c ∈ kept s → (l : Literal) → l ∈ c → variable_of l ≢ v) → CanDecide s b
  removed-can e f d u = record {
    entries = set-entries false e f;
    decidable = λ c i l j. ⊎_elim inl
        (λ h. inr (ap (λ xs. get_or xs (variable_of l) false) e ∙ get_or-set_other a.available v (variable_of l) false false (u c i l j) ∙ h))
        (d.decidable c i l j);
  }
