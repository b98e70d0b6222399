-- A search goes on once it forgot variables.
use Rattle.std.proofs.Common.{◌≡◌, ◌≢◌, ℕ, suc, ◌+◌, ◌*◌, ◌<◌, ◌≤◌, ◌↔◌, Bool, true, false, not, ◌&&◌, nat_eq, Option, None, List, [], ◌∷◌, length, map, replicate, get_or, set, inl, inr, ⊎_elim, refl, sym, ap, ap₂, ◌∙◌, subst, arith, length-set, get_or-set_same, get_or-set_other}
use Rattle.std.specs.Prelude.{cond}
use Rattle.std.specs.List.{filter}
use Rattle.std.proofs.lemmas.List.{get_or-map, length-map}
use Rattle.std.proofs.lemmas.Bool.{cases_Bool}
use Rattle.varisat_theory.specs.promises.Membership.{◌∈◌, IsDistinct}
use Rattle.varisat_theory.specs.promises.Literals.{Literal, Clause, variable_of}
use Rattle.varisat_theory.proofs.clauses.Members.{equal_or_not}
use Rattle.varisat_theory.proofs.clauses.Places.{∈-get_or, place_in}
use Rattle.varisat_clause.specs.Databases.{Tracks}
use Rattle.varisat_prop.specs.declared.prop.graph.Reason.TheVariants as reason
use Rattle.varisat_prop.specs.declared.prop.graph.ImplNode.{ImplNode}
use Rattle.varisat_prop.specs.Leaving.{leaves, staying, cleared, AreRenumbered}
use Rattle.varisat_prop.specs.Parts.{Values, TrailParts}
use Rattle.varisat_prop.specs.Simplified.{is_unassigned}
use Rattle.varisat_prop.specs.View.{View, kept, no_node, literal_at, node_of, node_at, is_clause, IsTrueIn, IsReason, WellFormed, PropagatedBeforeDecisions}
use Rattle.varisat_prop.specs.Watches.{Watches, IsPropagated}
use Rattle.varisat_prop.proofs.pairs.DistinctPlaces.{distinct-places, distinct-by-places}
use Rattle.varisat_prop.proofs.views.Leaving.{staying-was, was-staying, cleared-length, cleared-left, cleared-stays}
use Rattle.varisat_prop.proofs.pairs.SimplifiedPairs.{none-unassigned}
use Rattle.varisat_prop.proofs.views.SimplifiedView.{settled-undecided, settled-unassigned, implied-unassigned}
use Rattle.varisat_prop.proofs.trails.TrailValues.{variables-distinct}
use Rattle.varisat_analysis.proofs.WellFormedViews.{same-place}
use Rattle.varisat_vsids.specs.Activities.{Activities}
use Rattle.varisat_search.specs.declared.context.Context.{Context}
use Rattle.varisat_search.specs.AssumptionParts.{AssumptionParts, HasAssumptions}
use Rattle.varisat_search.specs.Contexts.{view, IsReady}
use Rattle.varisat_search.specs.Frames.{ChangesDecisions}
use Rattle.varisat_search.specs.Decisions.{IsDecidable, AreDecidable, CanDecide}
use Rattle.varisat_search.specs.Forgotten.{AreStaying, IsWithout, forgotten_activities, search_without}
use Rattle.varisat_search.specs.Seen.{search_of, is_fixed, is_proved}
use Rattle.varisat_search.specs.RootSimplified.{IsRootSimplified}
use Rattle.varisat_search.proofs.variables.ForgottenValues.{forgotten_values}

-- 1. The places on the trail are counted anew.

-- the first literals have their places as their depths, and nothing but depths changed
pub record NumberedTo (ls : List Literal) (k : ℕ) (old new : List ImplNode) : Type 0 where
  pub count : length new ≡ length old
  pub depths : (j : ℕ) → j < k → (get_or new (variable_of (get_or ls j 0)) no_node).depth ≡ suc j
  pub rest : (v : ℕ) → get_or new v no_node ≡ record (get_or old v no_node) { depth = (get_or new v no_node).depth }

pub numbered-none : (ls : List Literal) (ns : List ImplNode) → NumberedTo ls 0 ns ns
numbered-none ls ns = record { count = refl; depths = λ j h. absurd (omega (arith, h)); rest = λ v. refl }

other-variable : (ls : List Literal) → IsDistinct (map variable_of ls) → (j k : ℕ) → j < k → k < length ls →
    variable_of (get_or ls j 0) ≢ variable_of (get_or ls k 0)
other-variable ls d j k a b e =
    distinct-places (map variable_of ls) 0 d j k a (let n = length-map ls variable_of in omega (arith, b, n))
    (get_or-map variable_of ls j 0 0 (omega (arith, a, b)) ∙ e ∙ sym (get_or-map variable_of ls k 0 0 b))

module _ (ls : List Literal) (k v : ℕ) (old new : List ImplNode) (b : k < length ls) (e : v ≡ variable_of (get_or ls k 0)) (inside : v < length old)
    (d : IsDistinct (map variable_of ls)) (n : NumberedTo ls k old new) where
  abbrev next : List ImplNode
  next = set new v (record (get_or new v no_node) { depth = k + 1 })

  at-own : (w : ℕ) → w ≡ v → get_or next w no_node ≡ record (get_or old w no_node) { depth = k + 1 }
  at-own w f =
      ap (λ x. get_or next x no_node) f
      ∙ get_or-set_same new v (record (get_or new v no_node) { depth = k + 1 }) no_node (let c = n.count in omega (arith, c, inside))
      ∙ ap (λ (m : ImplNode). record m { depth = k + 1 }) (n.rest v)
      ∙ ap (λ x. record (get_or old x no_node) { depth = k + 1 }) (sym f)

  at-other : (w : ℕ) → w ≢ v → get_or next w no_node ≡ get_or new w no_node
  at-other w f = get_or-set_other new v w (record (get_or new v no_node) { depth = k + 1 }) no_node f

  one-more : (x y : ℕ) → x ≡ y → y + 1 ≡ suc x
  one-more x y f = omega (arith, f)

  pub numbered-more : NumberedTo ls (k + 1) old next
  numbered-more = record {
    count = length-set new v (record (get_or new v no_node) { depth = k + 1 }) ∙ n.count;
    depths = λ j h.
        ⊎_elim
        (λ f. ap (λ (m : ImplNode). m.depth) (at-own (variable_of (get_or ls j 0)) (ap (λ x. variable_of (get_or ls x 0)) f ∙ sym e)) ∙ one-more j k f)
        (λ f.
        let low : j < k = apart j k h f in
        ap (λ (m : ImplNode). m.depth) (at-other (variable_of (get_or ls j 0)) (λ g. other-variable ls d j k low b (g ∙ e))) ∙ n.depths j low)
        (equal_or_not j k);
    rest = λ w.
        ⊎_elim
        (λ f. let x = at-own w f in x ∙ sym (ap (λ (m : ImplNode). record (get_or old w no_node) { depth = m.depth }) x))
        (λ f. let x = at-other w f in x ∙ n.rest w ∙ sym (ap (λ (m : ImplNode). record (get_or old w no_node) { depth = m.depth }) x))
        (equal_or_not w v);
  }
    where
      apart : (j k : ℕ) → j < k + 1 → (j ≡ k → ⊥) → j < k
      apart j k h f = omega (arith, h, f)

pub numbered-all : (ls : List Literal) (k : ℕ) (old new : List ImplNode) → length ls ≤ k → NumberedTo ls k old new → AreRenumbered ls old new
numbered-all ls k old new h n = record { count = n.count; depths = λ j i. n.depths j (omega (arith, h, i)); rest = n.rest }

-- literals of different variables are so where some leave
mapped-less : (p : Literal → Bool) (ls : List Literal) (x : ℕ) → x ∈ map variable_of (filter p ls) → x ∈ map variable_of ls
mapped-less p [] x h = h
mapped-less p (l ∷ ls) x h = go (p l) h (mapped-less p ls x)
  where
    go : (b : Bool) → x ∈ map variable_of (cond b (l ∷ filter p ls) (filter p ls)) → (x ∈ map variable_of (filter p ls) → x ∈ map variable_of ls) →
        x ∈ map variable_of (l ∷ ls)
    go true (inl e) f = inl e
    go true (inr i) f = inr (f i)
    go false i f = inr (f i)

pub distinct-left : (p : Literal → Bool) (ls : List Literal) → IsDistinct (map variable_of ls) → IsDistinct (map variable_of (filter p ls))
distinct-left p [] d = tt
distinct-left p (l ∷ ls) d = go (p l) (distinct-left p ls d.1)
  where
    go : (b : Bool) → IsDistinct (map variable_of (filter p ls)) → IsDistinct (map variable_of (cond b (l ∷ filter p ls) (filter p ls)))
    go true i = ((λ h. d.0 (mapped-less p ls (variable_of l) h)), i)
    go false i = i

pub staying-distinct : (s : View) (gone : List Bool) → WellFormed s → IsDistinct (map variable_of (staying gone s.trail))
staying-distinct s gone w = distinct-left (λ l. not (leaves gone (variable_of l))) s.trail (variables-distinct s w)

-- 2. Which variables are decidable.
module _ (gone : List Bool) (s t : View) (a : Activities) (e : t.values ≡ cleared gone None s.values) where
  value-gone : (v : ℕ) → leaves gone v ≡ true → get_or t.values v None ≡ None
  value-gone v f = ap (λ xs. get_or xs v None) e ∙ cleared-left gone None s.values v f

  value-stays : (v : ℕ) → leaves gone v ≡ false → get_or t.values v None ≡ get_or s.values v None
  value-stays v f = ap (λ xs. get_or xs v None) e ∙ cleared-stays gone None s.values None v f

  pub was-decidable : (v : ℕ) → IsDecidable t (forgotten_activities gone a) v → IsDecidable s a v × (leaves gone v ≡ false)
  was-decidable v h =
      ⊎_elim
      (λ f. ⊎_elim
      (λ n. absurd (n (value-gone v f)))
      (λ i. let g = cleared-left gone false a.available v f in let z : true ≡ false = sym i ∙ g in absurd cc)
      h)
      (λ f. (⊎_elim (λ n. inl (λ z. n (value-stays v f ∙ z))) (λ i. inr (sym (cleared-stays gone false a.available false v f) ∙ i)) h, f))
      (cases_Bool (leaves gone v))

  pub stays-decidable : (v : ℕ) → IsDecidable s a v → leaves gone v ≡ false → IsDecidable t (forgotten_activities gone a) v
  stays-decidable v h f = ⊎_elim (λ n. inl (λ z. n (sym (value-stays v f) ∙ z))) (λ i. inr (cleared-stays gone false a.available false v f ∙ i)) h

  pub without-decidable : (v : ℕ) → IsDecidable t (forgotten_activities gone a) v ↔ (IsDecidable s a v × (leaves gone v ≡ false))
  without-decidable v = (was-decidable v, λ h. stays-decidable v h.0 h.1)

  pub without-can : CanDecide s a → kept t ≡ kept s → ((c : Clause) → c ∈ kept s → AreStaying gone c) → CanDecide t (forgotten_activities gone a)
  without-can d k u = record {
    entries = record {
      activity = cleared-length gone 0 a.activity ∙ d.entries.activity
          ∙ sym (ap (λ (xs : List (Option Bool)). length xs) e ∙ cleared-length gone None s.values);
      available = cleared-length gone false a.available ∙ d.entries.available
          ∙ sym (ap (λ (xs : List (Option Bool)). length xs) e ∙ cleared-length gone None s.values);
    };
    decidable = λ c i l j. let h = subst (λ cs. c ∈ cs) k i in stays-decidable (variable_of l) (d.decidable c h l j) (u c h l j);
  }

-- 3. The view stays well formed.
module _ (gone : List Bool) (s t : View) (w : WellFormed s) (d : IsRootSimplified s) (p : IsWithout gone s t) where
  abbrev u : View
  u = record s { values = cleared gone None s.values; trail = staying gone s.trail; queue_head = length (staying gone s.trail); nodes = t.nodes }

  none-listed : (j : ℕ) → j < length s.decisions → ⊥
  none-listed j h = let n = ap (λ (xs : List ℕ). length xs) d.undecided in omega (arith, h, n)

  node-rest : (l : Literal) → node_of u l ≡ record (node_of s l) { depth = (node_of u l).depth }
  node-rest l = p.nodes.rest (variable_of l)

  was-at : (k : ℕ) → k < length u.trail → (j : ℕ) × (j < length s.trail) × (literal_at s j ≡ literal_at u k)
      × (leaves gone (variable_of (literal_at u k)) ≡ false)
  was-at k h =
      let (i, e) = staying-was gone s.trail (literal_at u k) (∈-get_or u.trail k 0 h) in
      let (j, a, f) = place_in (literal_at u k) s.trail 0 i in
      (j, a, f, e)

  level-zero : (k : ℕ) → k < length u.trail → (node_at u k).level ≡ 0
  level-zero k h =
      let (j, a, f, e) = was-at k h in
      let b = w.levels_to j a in
      let n = ap (λ (xs : List ℕ). length xs) d.undecided in
      let z : (node_at s j).level ≡ 0 = omega (arith, b, n) in
      ap (λ (m : ImplNode). m.level) (node-rest (literal_at u k)) ∙ ap (λ l. (node_of s l).level) (sym f) ∙ z

  pub still-proved : (k : ℕ) → k < length u.trail → (node_at u k).reason ≡ reason.Unit
  still-proved k h =
      let (j, a, f, e) = was-at k h in
      ap (λ (m : ImplNode). m.reason) (node-rest (literal_at u k)) ∙ ap (λ l. (node_of s l).reason) (sym f) ∙ d.proved j a

  true-at : (k : ℕ) → k < length u.trail → IsTrueIn u (literal_at u k)
  true-at k h =
      let (j, a, f, e) = was-at k h in
      cleared-stays gone None s.values None (variable_of (literal_at u k)) e ∙ subst (IsTrueIn s) f (w.is_true j a)

  true-stays : (l : Literal) → IsTrueIn u l → leaves gone (variable_of l) ≡ false
  true-stays l h = ⊎_elim (λ e. let n = cleared-left gone None s.values (variable_of l) e in absurd cc) (λ e. e) (cases_Bool (leaves gone (variable_of l)))

  stands-at : (l : Literal) → IsTrueIn u l → (k : ℕ) × (k < length u.trail) × (literal_at u k ≡ l)
  stands-at l h =
      let e = true-stays l h in
      let (j, a, f) = w.stands l (sym (cleared-stays gone None s.values None (variable_of l) e) ∙ h) in
      place_in l u.trail 0 (was-staying gone s.trail l (subst (λ m. m ∈ s.trail) f (∈-get_or s.trail j 0 a)) e)

  same-count : length u.values ≡ length s.values
  same-count = cleared-length gone None s.values

  u-well : WellFormed u
  u-well = record {
    sound = w.sound;
    nodes_are = p.nodes.count ∙ w.nodes_are ∙ sym same-count;
    small = let e = same-count in let f = w.small in omega (arith, e, f);
    places = w.places;
    in_range = λ c i l j. let e = same-count in let f = w.in_range c i l j in omega (arith, e, f);
    several = w.several;
    distinct = w.distinct;
    binary_back = w.binary_back;
    binary_other = w.binary_other;
    is_true = true-at;
    stands = stands-at;
    head = omega arith;
    depth_is = p.nodes.depths;
    decided = λ j h. absurd (none-listed j h);
    rising = λ i j h k. absurd (none-listed j k);
    levels_to = λ k h. let e = level-zero k h in omega (arith, e);
    levels_up = λ k j h i o. absurd (none-listed j i);
    levels_down = λ k j h i o. absurd (none-listed j i);
    reason_is = λ k h. subst (IsReason u k) (sym (still-proved k h)) (inr (level-zero k h));
  }

  pub without-well : WellFormed t
  without-well = subst WellFormed (sym p.rest) u-well

  pub without-settled : PropagatedBeforeDecisions t
  without-settled = subst PropagatedBeforeDecisions (sym p.rest) (settled-undecided u d.undecided)

  none-valued : (c : Clause) → c ∈ kept s → (l : Literal) → l ∈ c → get_or u.values (variable_of l) None ≡ None
  none-valued c i l j =
      ⊎_elim
      (λ e. cleared-left gone None s.values (variable_of l) e)
      (λ e. cleared-stays gone None s.values None (variable_of l) e ∙ d.unassigned c i l j)
      (cases_Bool (leaves gone (variable_of l)))

  free : (c : Clause) → c ∈ kept u → (l : Literal) → l ∈ c → is_unassigned u.values l ≡ true
  free c i l j = none-unassigned u.values l (none-valued c i l j)

  u-propagated : (W : Watches) → IsPropagated W s → IsPropagated W u
  u-propagated W q = record {
    lists = let e = same-count in let n = q.lists in omega (arith, e, n);
    watching = q.watching;
    empty = q.empty;
    settled = settled-unassigned u u-well free;
    binary = let e = same-count in let n = q.binary in omega (arith, e, n);
    implied = implied-unassigned u u-well free;
    queue = λ j h. absurd (none-listed j h);
  }

  pub without-propagated : (W : Watches) → IsPropagated W s → IsPropagated W t
  without-propagated W q = subst (IsPropagated W) (sym p.rest) (u-propagated W q)

  pub without-settled-down : IsRootSimplified t
  without-settled-down = subst IsRootSimplified (sym p.rest) record { undecided = d.undecided; propagated = refl; proved = still-proved; unassigned = none-valued }

  pub without-assumed : (x : AssumptionParts) → HasAssumptions s x → HasAssumptions t x
  without-assumed x h =
      subst (λ (y : View). HasAssumptions y x) (sym p.rest) record {
        reached = h.reached;
        listed = h.listed;
        decided = λ j i. let r = h.reached in absurd (none-listed j (omega (arith, i, r)));
        first = h.first;
        in_range = λ l i. let e = same-count in let r = h.in_range l i in omega (arith, e, r);
      }

  -- 4. A proof sees the same clauses, and the literals that stay.
  same-filter : (f g : Literal → Bool) → ((l : Literal) → f l ≡ g l) → (ls : List Literal) → filter f ls ≡ filter g ls
  same-filter f g h [] = refl
  same-filter f g h (l ∷ ls) = ap₂ (λ b xs. cond b (l ∷ xs) xs) (h l) (same-filter f g h ls)

  moved-in : (f : Literal → Bool) (b : Bool) (l : Literal) (ls : List Literal) →
      filter f (cond b (l ∷ ls) ls) ≡ cond b (cond (f l) (l ∷ filter f ls) (filter f ls)) (filter f ls)
  moved-in f true l ls = refl
  moved-in f false l ls = refl

  swapped : (a b : Bool) (l : Literal) (xs : List Literal) → cond b (cond a (l ∷ xs) xs) xs ≡ cond a (cond b (l ∷ xs) xs) xs
  swapped true true l xs = refl
  swapped true false l xs = refl
  swapped false true l xs = refl
  swapped false false l xs = refl

  swap-filters : (f g : Literal → Bool) (ls : List Literal) → filter f (filter g ls) ≡ filter g (filter f ls)
  swap-filters f g [] = refl
  swap-filters f g (l ∷ ls) =
      moved-in f (g l) l (filter g ls)
      ∙ swapped (f l) (g l) l (filter f (filter g ls))
      ∙ ap (λ xs. cond (f l) (cond (g l) (l ∷ xs) xs) xs) (swap-filters f g ls)
      ∙ sym (moved-in g (f l) l (filter f ls))

  fixed-same : (l : Literal) → is_fixed u l ≡ is_fixed s l
  fixed-same l = ap (λ (n : ImplNode). nat_eq n.level 0) (node-rest l)

  proved-same : (l : Literal) → is_proved u l ≡ is_proved s l
  proved-same l = ap (λ (n : ImplNode). nat_eq n.level 0 && not (is_clause n.reason)) (node-rest l)

  staying-same : (f g : Literal → Bool) → ((l : Literal) → f l ≡ g l) → filter f (staying gone s.trail) ≡ staying gone (filter g s.trail)
  staying-same f g h = same-filter f g h (staying gone s.trail) ∙ swap-filters g (λ l. not (leaves gone (variable_of l))) s.trail

  pub without-seen : search_of t ≡ search_without gone (search_of s)
  without-seen =
      ap search_of p.rest
      ∙ ap₂ (λ xs ys. record (search_of s) { fixed = xs; proved = ys }) (staying-same (is_fixed u) (is_fixed s) fixed-same)
      (staying-same (is_proved u) (is_proved s) proved-same)

-- 5. The search is ready again.
pub without-view : {A : Type 0} (x z : Context A) (gone : List Bool) (ls : List Literal) →
    z.trail ≡ record x.trail { literals = staying gone x.trail.literals; queue_head = length (staying gone x.trail.literals) } →
    z.assignment ≡ forgotten_values gone x.assignment → ls ≡ z.trail.literals →
    AreRenumbered ls x.impl_graph.nodes.items z.impl_graph.nodes.items →
    ChangesDecisions x z → IsWithout gone (view x) (view z)
without-view {A} x z gone ls f e l n k = record {
  nodes = subst (λ ms. AreRenumbered ms x.impl_graph.nodes.items z.impl_graph.nodes.items) (l ∙ ap (λ (t : TrailParts). t.literals) f) n;
  rest = ap (λ (y : Context A). view y) k
      ∙ ap₂ (λ (a : Values) (t : TrailParts). record (view x)
      { values = a.current; trail = t.literals; queue_head = t.queue_head; decisions = t.decisions; nodes = z.impl_graph.nodes.items }) e f;
}

pub without-ready : {A : Type 0} (x z : Context A) (gone : List Bool) → IsReady x → IsRootSimplified (view x) → IsWithout gone (view x) (view z) →
    ((c : Clause) → c ∈ kept (view x) → AreStaying gone c) → AreStaying gone x.assumptions.working → z.vsids ≡ forgotten_activities gone x.vsids →
    ChangesDecisions x z → IsReady z
without-ready {A} x z gone r d p unmentioned unassumed v k =
    let s = view x in
    let t = view z in
    let values : t.values ≡ cleared gone None s.values = ap (λ (y : View). y.values) p.rest in
    let count : length t.values ≡ length s.values = ap (λ (xs : List (Option Bool)). length xs) values ∙ cleared-length gone None s.values in
    let same : z.assumptions ≡ x.assumptions = ap (λ (y : Context A). y.assumptions) k in
    record {
      well = without-well gone s t r.well d p;
      settled = without-settled gone s t r.well d p;
      propagated = subst (λ W. IsPropagated W t) (sym (ap (λ (y : Context A). y.watchlists) k))
          (without-propagated gone s t r.well d p x.watchlists r.propagated);
      tracks = subst (λ (y : Context A). Tracks y.clause_db y.clause_alloc) (sym k) r.tracks;
      analysis = ap (λ (y : Context A). y.analyze_conflict.var_count) k ∙ r.analysis ∙ sym count;
      flags = ap (λ (y : Context A). y.tmp_flags.flags.items) k ∙ r.flags ∙ ap (λ n. replicate (2 * n) false) (sym count);
      decidable = subst (CanDecide t) (sym v) (without-can gone s t x.vsids values r.decidable (ap kept p.rest) unmentioned);
      assumed = subst (HasAssumptions t) (sym same) (without-assumed gone s t r.well d p x.assumptions r.assumed);
      assumable = subst (λ (q : AssumptionParts). AreDecidable t z.vsids q.working) (sym same)
          (subst (λ b. AreDecidable t b x.assumptions.working) (sym v)
          (λ l i. stays-decidable gone s t x.vsids values (variable_of l) (r.assumable l i) (unassumed l i)));
    }
