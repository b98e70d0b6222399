-- How `add_literals` marks the literals of a clause, and what the loops of analysis read.
use Rattle.std.proofs.Common.{◌≡◌, ℕ, zero, suc, ◌+◌, ◌<◌, ◌≤◌, Bool, true, false, List, [], ◌∷◌, ◌++◌, length, get_or, set, take, ◌⊎◌, inl, inr, ⊎_elim, refl, sym, ap, ◌∙◌, subst, arith, append_assoc, add-one, get_or-set_same, get_or-set_other}
use Rattle.std.proofs.lemmas.Bool.{cases_Bool}
use Rattle.varisat_theory.specs.promises.Membership.{◌∈◌, ◌⊆◌}
use Rattle.varisat_theory.specs.promises.Literals.{Literal, Clause, variable_of, opposite}
use Rattle.varisat_theory.specs.promises.Propagation.{IsFalse}
use Rattle.varisat_theory.proofs.clauses.Members.{equal_or_not, ∈-append_left, ∈-append_right, ∈-append_cases, distinct_append}
use Rattle.varisat_theory.proofs.clauses.Places.{∈-take_more}
use Rattle.varisat_prop.specs.View.{View, literal_at, node_at, level_of, IsOnTrailBefore, WellFormed}
use Rattle.varisat_theory.proofs.clauses.Values.{variable-opposite}
use Rattle.varisat_prop.proofs.views.ViewGrowth.{append-nil}
use Rattle.varisat_prop.proofs.views.ReadElements.{element, item-∈}
use Rattle.varisat_analysis.specs.Flags.{IsFlagged}
use Rattle.varisat_analysis.specs.Learned.{current_level, IsOfKept}
use Rattle.varisat_analysis.specs.declared.analyze_conflict.Parts.{Parts}
use Rattle.varisat_analysis.specs.Marks.{CanMark, Marking, IsMarkOf, OfClause, OfCurrentLevel, IsLower, open_below, AreFalseBefore, AreOfKept, MeetsNew, AddsMarks}
use Rattle.varisat_analysis.proofs.CopiedLiterals.{distinct-push}
use Rattle.varisat_analysis.proofs.WellFormedViews.{inside, level-small, level-opposite, level-same, same-place}
use Rattle.varisat_analysis.proofs.AnalysisOpen.{open-is, closed-unmarked, open-same, open-elsewhere, count-same, count-more}

pub take-grow : {X : Type 0} (i : ℕ) (xs : List X) (x : X) → x ∈ take i xs → x ∈ take (i + 1) xs
take-grow {X = X} i xs x h = subst (λ n. x ∈ take n xs) (sym (add-one i)) (go i xs h)
  where
    go : (i : ℕ) (xs : List X) → x ∈ take i xs → x ∈ take (suc i) xs
    go zero xs h = absurd h
    go (suc i) [] h = absurd h
    go (suc i) (y ∷ xs) (inl e) = inl e
    go (suc i) (y ∷ xs) (inr h) = inr (go i xs h)

pub take-last : (i : ℕ) (xs : List ℕ) → i < length xs → get_or xs i 0 ∈ take (i + 1) xs
take-last i xs h = subst (λ n. get_or xs i 0 ∈ take n xs) (sym (add-one i)) (go i xs h)
  where
    go : (i : ℕ) (xs : List ℕ) → i < length xs → get_or xs i 0 ∈ take (suc i) xs
    go i [] h = absurd (omega arith)
    go zero (y ∷ xs) h = inl refl
    go (suc i) (y ∷ xs) h = inr (go i xs (omega arith))

-- a variable is marked after its flag was set, and no other one more
pub marked-old : (f : List Bool) (v x : ℕ) → v < length f → IsFlagged f x → IsFlagged (set f v true) x
marked-old f v x h m =
    ⊎_elim
    (λ e. subst (IsFlagged (set f v true)) (sym e) (get_or-set_same f v true false h))
    (λ n. get_or-set_other f v x true false n ∙ m)
    (equal_or_not x v)

pub marked-new : (f : List Bool) (v x : ℕ) → IsFlagged (set f v true) x → IsFlagged f x ⊎ (x ≡ v)
marked-new f v x m =
    ⊎_elim inr (λ n. inl (sym (get_or-set_other f v x true false n) ∙ m)) (equal_or_not x v)

-- a flag that is false later on was false before
pub fresh-before : (f g : List Bool) (v : ℕ) → (IsFlagged f v → IsFlagged g v) → get_or g v false ≡ false → get_or f v false ≡ false
fresh-before f g v h n = ⊎_elim (λ e. absurd (let x = sym (h e) ∙ n in cc)) (λ e. e) (cases_Bool (get_or f v false))

-- what is the mark of a variable is so among more literals and variables
pub mark-of : (s : View) (i : ℕ) (x y : Marking) (v : ℕ) → x.clause ⊆ y.clause → (v ∈ x.met → v ∈ y.met) → IsMarkOf s i x v → IsMarkOf s i y v
mark-of s i x y v a b (OfClause m j e z) = OfClause m (a m j) e (b z)
mark-of s i x y v a b (OfCurrentLevel k l p e) = OfCurrentLevel k l p e

-- no variable is met where each literal is of level 0, or its variable is marked
meets-none : (s : View) (lits : List Literal) (x : Marking) → MeetsNew s lits x x
meets-none s lits x = record {
  since = [];
  longer = sym (append-nil x.met);
  distinct = tt;
  only = λ v i. absurd i;
  fresh = λ v i. absurd i;
  listed = λ v k. inl k;
}

pub adds-start : (s : View) (x : Marking) → AddsMarks s [] 0 x x
adds-start s x = record {
  more = λ v m. m;
  only = λ v m. inl m;
  all = λ m h. absurd h;
  longer = λ m h. h;
  marks = λ i h y o k. k;
  counted = λ i h l. omega arith;
  met = meets-none s [] x;
  involved = refl;
}

-- nothing is done with a literal of level 0, or of a variable that is marked
pub adds-none : (s : View) (m : Literal) (x : Marking) → (level_of s m ≡ 0) ⊎ IsFlagged x.flags (variable_of m) → AddsMarks s (m ∷ []) 0 x x
adds-none s m x o = record {
  more = λ v k. k;
  only = λ v k. inl k;
  all = λ l h a. ⊎_elim (λ (e : l ≡ m). ⊎_elim (λ z. let g = ap (level_of s) e in absurd (omega (arith, z, g, a)))
      (λ k. subst (λ y. IsFlagged x.flags (variable_of y)) (sym e) k) o) (λ z. absurd z) h;
  longer = λ l h. h;
  marks = λ i h y o k. k;
  counted = λ i h l. omega arith;
  met = meets-none s (m ∷ []) x;
  involved = refl;
}

module _ (s : View) (w : WellFormed s) (m : Literal) (x : Marking) (h : variable_of m < length x.flags) (n : get_or x.flags (variable_of m) false ≡ false) where
  abbrev g : List Bool
  g = set x.flags (variable_of m) true

  not-marked : IsFlagged x.flags (variable_of m) → ⊥
  not-marked k = let e = sym n ∙ k in absurd cc

  still : (v : ℕ) → IsFlagged x.flags v → IsFlagged g v
  still v k = marked-old x.flags (variable_of m) v h k

  only-one : (v : ℕ) → IsFlagged g v → IsFlagged x.flags v ⊎ ((l : Literal) × (l ∈ (m ∷ [])) × (variable_of l ≡ v))
  only-one v k = ⊎_elim inl (λ e. inr (m, inl refl, sym e)) (marked-new x.flags (variable_of m) v k)

  all-one : (l : Literal) → l ∈ (m ∷ []) → 0 < level_of s l → IsFlagged g (variable_of l)
  all-one l i a = ⊎_elim (λ e. subst (λ y. IsFlagged g (variable_of y)) (sym e) (get_or-set_same x.flags (variable_of m) true false h)) (λ z. absurd z) i

  -- its variable is met
  abbrev met : List ℕ
  met = x.met ++ variable_of m ∷ []

  meets-one : 0 < level_of s m → (y : Marking) → y.flags ≡ g → y.met ≡ met → MeetsNew s (m ∷ []) x y
  meets-one b y fe me = record {
    since = variable_of m ∷ [];
    longer = me;
    distinct = ((λ z. z), tt);
    only = λ v i. ⊎_elim (λ e. (m, inl refl, b, sym e)) (λ z. absurd z) i;
    fresh = λ v i. ⊎_elim (λ e. subst (λ u. get_or x.flags u false ≡ false) (sym e) n) (λ z. absurd z) i;
    listed = λ v k. ⊎_elim inl (λ e. inr (inl e)) (marked-new x.flags (variable_of m) v (subst (λ f. IsFlagged f v) fe k));
  }

  met-inside : opposite m ∈ s.trail → ((v : ℕ) → v ∈ x.met → v < length s.nodes) → (v : ℕ) → v ∈ met → v < length s.nodes
  met-inside fm k v j = ⊎_elim (k v) (λ o. ⊎_elim (λ e. let z = inside s w m fm in omega (arith, e, z)) (λ z. absurd z) o)
      (∈-append_cases v x.met (variable_of m ∷ []) j)

  -- one literal of the current level
  abbrev seen : Marking
  seen = record x { flags = g; met = met }

  pub adds-late : opposite m ∈ s.trail → 0 < level_of s m → level_of s m ≡ current_level s → AddsMarks s (m ∷ []) 1 x seen
  adds-late fm b l = record {
    more = still;
    only = only-one;
    all = all-one;
    longer = λ y i. i;
    marks = λ i a y0 o k. record {
      lower = k.lower;
      marked = λ y j. still (variable_of y) (k.marked y j);
      distinct = k.distinct;
      met = met-inside fm k.met;
      listed = k.listed;
      known = λ v q. ⊎_elim (λ u. mark-of s i x seen v (λ y j. j) (λ j. ∈-append_left v x.met (variable_of m ∷ []) j) (k.known v u))
          (λ e. late-place i o (a m (inl refl)) v e) (marked-new x.flags (variable_of m) v q);
    };
    counted = λ i a b. more-one i b (a m (inl refl));
    met = meets-one b seen refl refl;
    involved = refl;
  }
    where
      current-at : (i : ℕ) → IsOnTrailBefore s i (opposite m) → i ≤ length s.trail → (k : ℕ) × (k < i) × (k < length s.trail)
          × ((node_at s k).level ≡ current_level s) × (variable_of (literal_at s k) ≡ variable_of m)
      current-at i (k, a, e) b =
          let p : (node_at s k).level ≡ level_of s (opposite m) = ap (level_of s) e in
          (k, a, omega (arith, a, b), p ∙ level-opposite s m ∙ l, ap variable_of e ∙ variable-opposite m)

      late-place : (i : ℕ) → i ≤ length s.trail → IsOnTrailBefore s i (opposite m) → (v : ℕ) → v ≡ variable_of m → IsMarkOf s i seen v
      late-place i o b v e = let (k, p, q, r, u) = current-at i b o in OfCurrentLevel k p (q, r) (u ∙ sym e)

      more-one : (i : ℕ) → i ≤ length s.trail → IsOnTrailBefore s i (opposite m) → open_below s g i ≡ open_below s x.flags i + 1
      more-one i b a =
          let (k, p, q, r, e) = current-at i a b in
          count-more s x.flags g i k p
          (closed-unmarked s x.flags k (ap (λ v. get_or x.flags v false) e ∙ n))
          (open-is s g k (q, r) (subst (IsFlagged g) (sym e) (get_or-set_same x.flags (variable_of m) true false h)))
          (λ j u o. open-same s x.flags g j
          (sym (get_or-set_other x.flags (variable_of m) (variable_of (literal_at s j)) true false
          (λ z. o (same-place s w j k (omega (arith, u, b)) q (z ∙ sym e))))))

  -- the literal joins the clause
  abbrev joined : Marking
  joined = record x { clause = x.clause ++ m ∷ []; flags = g; met = met }

  -- one literal below the current level
  pub adds-lower : opposite m ∈ s.trail → 0 < level_of s m → level_of s m < current_level s → AddsMarks s (m ∷ []) 0 x joined
  adds-lower fm a b = record {
    more = still;
    only = only-one;
    all = all-one;
    longer = λ y i. ∈-append_left y x.clause (m ∷ []) i;
    marks = λ i q y0 z0 k. record {
      lower = λ y j. ⊎_elim (k.lower y)
          (λ o. ⊎_elim (λ e. subst (IsLower s) (sym e) (record { false_now = fm; above = a; below = b; of_kept = y0 m (inl refl) }))
          (λ z. absurd z) o) (∈-append_cases y x.clause (m ∷ []) j);
      marked = λ y j. ⊎_elim (λ o. still (variable_of y) (k.marked y o))
          (λ o. all-one y o (⊎_elim (λ e. let z = ap (level_of s) e in omega (arith, z, a)) (λ z. absurd z) o)) (∈-append_cases y x.clause (m ∷ []) j);
      distinct = distinct-push x.clause m k.distinct (λ o. not-marked (k.marked m o));
      met = met-inside fm k.met;
      listed = k.listed;
      known = λ v r. ⊎_elim
          (λ u. mark-of s i x joined v (λ y j. ∈-append_left y x.clause (m ∷ []) j) (λ j. ∈-append_left v x.met (variable_of m ∷ []) j) (k.known v u))
          (λ e. OfClause m (∈-append_right m x.clause (m ∷ []) (inl refl)) (sym e) (∈-append_right v x.met (variable_of m ∷ []) (inl e)))
          (marked-new x.flags (variable_of m) v r);
    };
    counted = λ i q o. same-count i;
    met = meets-one a joined refl refl;
    involved = refl;
  }
    where
      same-count : (i : ℕ) → open_below s g i ≡ open_below s x.flags i + 0
      same-count i =
          let e = count-same s x.flags g i (λ k u. ⊎_elim
          (λ (z : variable_of (literal_at s k) ≡ variable_of m). open-elsewhere s x.flags g k
          (λ y. let l = level-same s (literal_at s k) m z in absurd (omega (arith, l, y, b))))
          (λ z. open-same s x.flags g k (sym (get_or-set_other x.flags (variable_of m) (variable_of (literal_at s k)) true false z)))
          (equal_or_not (variable_of (literal_at s k)) (variable_of m))) in
          omega (arith, e)

pub adds-more : (s : View) (lits : List Literal) (k : ℕ) (m : Literal) (n d : ℕ) (x y z : Marking) → k < length lits → m ≡ get_or lits k 0 →
    AddsMarks s (take k lits) n x y → AddsMarks s (m ∷ []) d y z → AddsMarks s (take (k + 1) lits) (n + d) x z
adds-more s lits k m n d x y z l e a b = record {
  more = λ v j. b.more v (a.more v j);
  only = λ v j. ⊎_elim
      (λ j. ⊎_elim inl (λ (o, i, q). inr (o, take-grow k lits o i, q)) (a.only v j))
      (λ (o, i, q). inr (m, last, ⊎_elim (λ g. ap variable_of (sym g) ∙ q) (λ g. absurd g) i))
      (b.only v j);
  all = λ j i o. ⊎_elim (λ p. b.more (variable_of j) (a.all j p o)) (λ p. b.all j (inl (p ∙ sym e)) o) (∈-take_more j lits k 0 i);
  longer = λ j i. b.longer j (a.longer j i);
  marks = λ i h y0 o q. b.marks i (one i h) (kept-one y0) o (a.marks i (front i h) (λ j n. y0 j (take-grow k lits j n)) o q);
  counted = λ i h o. let p = a.counted i (front i h) o in let q = b.counted i (one i h) o in omega (arith, p, q);
  met = record {
    since = a.met.since ++ b.met.since;
    longer = b.met.longer ∙ ap (λ vs. vs ++ b.met.since) a.met.longer ∙ append_assoc x.met a.met.since b.met.since;
    distinct = distinct_append a.met.since b.met.since a.met.distinct b.met.distinct
        (λ v i j. let p = marked-since v i in let q = b.met.fresh v j in let r : true ≡ false = sym p ∙ q in absurd cc);
    only = λ v i. ⊎_elim
        (λ j. let (o, p, q, r) = a.met.only v j in (o, take-grow k lits o p, q, r))
        (λ j. let (o, p, q, r) = b.met.only v j in (o, ⊎_elim (λ g. subst (λ t. t ∈ take (k + 1) lits) (sym g) last) (λ g. absurd g) p, q, r))
        (∈-append_cases v a.met.since b.met.since i);
    fresh = λ v i. ⊎_elim (a.met.fresh v) (λ j. fresh-before x.flags y.flags v (a.more v) (b.met.fresh v j))
        (∈-append_cases v a.met.since b.met.since i);
    listed = λ v j. ⊎_elim
        (λ i. ⊎_elim inl (λ p. inr (∈-append_left v a.met.since b.met.since p)) (a.met.listed v i))
        (λ i. inr (∈-append_right v a.met.since b.met.since i))
        (b.met.listed v j);
  };
  involved = b.involved ∙ a.involved;
}
  where
    marked-since : (v : ℕ) → v ∈ a.met.since → IsFlagged y.flags v
    marked-since v i = let (o, p, q, r) = a.met.only v i in subst (IsFlagged y.flags) r (a.all o p q)

    last : m ∈ take (k + 1) lits
    last = subst (λ o. o ∈ take (k + 1) lits) (sym e) (take-last k lits l)

    kept-one : AreOfKept s (take (k + 1) lits) → AreOfKept s (m ∷ [])
    kept-one y0 o j = ⊎_elim (λ g. subst (IsOfKept s) (sym g) (y0 m last)) (λ g. absurd g) j

    front : (i : ℕ) → AreFalseBefore s i (take (k + 1) lits) → AreFalseBefore s i (take k lits)
    front i h o j = h o (take-grow k lits o j)

    one : (i : ℕ) → AreFalseBefore s i (take (k + 1) lits) → AreFalseBefore s i (m ∷ [])
    one i h o j = ⊎_elim (λ g. subst (λ q. IsOnTrailBefore s i (opposite q)) (sym g) (h m last)) (λ g. absurd g) j

-- A loop over false literals is at place k, and the literal's variable has a flag.
pub record IsAt (s : View) (lits : List Literal) (flags : List Bool) (k m : ℕ) : Type 0 where
  pub below : k < length lits
  pub element_is : m ≡ get_or lits k 0
  pub false_now : opposite m ∈ s.trail
  pub inside : variable_of m < length flags

-- the variable of a false literal has a flag
pub has-flag : {A : Type 0} {s : View} {parts : Parts A} {flags : List Bool} → CanMark s parts flags → (m : Literal) → opposite m ∈ s.trail →
    variable_of m < length flags
has-flag {s = s} c m h =
    let i = inside s c.sees.well m h in
    let z = c.flags_are in
    omega (arith, i, z)

pub can-still : {A : Type 0} {s : View} {parts : Parts A} {old flags : List Bool} → CanMark s parts old → length flags ≡ length old → CanMark s parts flags
can-still c n = record { sees = c.sees; flags_are = n ∙ c.flags_are }

pub is-at : {A : Type 0} {s : View} {parts : Parts A} {old flags : List Bool} {lits : List Literal} {k m : ℕ} → CanMark s parts old →
    IsFalse s.trail lits → k < length lits → m ≡ get_or lits k m → length flags ≡ length old → IsAt s lits flags k m
is-at {s = s} {lits = lits} {k = k} {m = m} c f l e n =
    let h = f m (item-∈ lits k m l e) in
    record { below = l; element_is = element lits k m l e; false_now = h; inside = has-flag (can-still c n) m h }

-- the steps of the loop over the literals, as they read the flags and levels
module _ {s : View} {n : ℕ} {x y : Marking} {lits : List Literal} {k m : ℕ} (w : WellFormed s) (p : IsAt s lits y.flags k m)
    (a : AddsMarks s (take k lits) n x y) where
  more : (d total : ℕ) (z : Marking) → total ≡ n + d → AddsMarks s (m ∷ []) d y z → AddsMarks s (take (k + 1) lits) total x z
  more d total z q b = subst (λ t. AddsMarks s (take (k + 1) lits) t x z) (sym q) (adds-more s lits k m n d x y z p.below p.element_is a b)

  pub added-none : (level_of s m ≡ 0) ⊎ IsFlagged y.flags (variable_of m) → AddsMarks s (take (k + 1) lits) n x y
  added-none z = more 0 n y (omega arith) (adds-none s m y z)

  module _ (total v : ℕ) (o : v ≡ variable_of m) (f : get_or y.flags (variable_of m) false ≡ false) (z : Marking) where
    pub added-late : total ≡ n + 1 → 0 < level_of s m → level_of s m ≡ current_level s → (met : List ℕ) (u : ℕ) → met ≡ y.met ++ u ∷ [] →
        u ≡ variable_of m → z ≡ record y { flags = set y.flags v true; met = met } → AddsMarks s (take (k + 1) lits) total x z
    added-late q b j met u te r e =
        more 1 total z q (subst (λ t. AddsMarks s (m ∷ []) 1 y t) (sym (e ∙ same)) (adds-late s w m y p.inside f p.false_now b j))
      where
        same : record y { flags = set y.flags v true; met = met } ≡ record y { flags = set y.flags (variable_of m) true; met = y.met ++ variable_of m ∷ [] }
        same =
            ap (λ (t : ℕ). record y { flags = set y.flags t true; met = met }) o
            ∙ ap (λ (t : List ℕ). record y { flags = set y.flags (variable_of m) true; met = t }) (te ∙ ap (λ (t : ℕ). y.met ++ t ∷ []) r)

    pub added-lower : total ≡ n → 0 < level_of s m → (level_of s m ≡ current_level s → ⊥) → (clause : Clause) (met : List ℕ) (u : ℕ) →
        clause ≡ y.clause ++ m ∷ [] → met ≡ y.met ++ u ∷ [] → u ≡ variable_of m →
        z ≡ record y { clause = clause; flags = set y.flags v true; met = met } → AddsMarks s (take (k + 1) lits) total x z
    added-lower q b j clause met u ce te r e =
        let c = level-small s w m p.false_now in
        more 0 total z (omega (arith, q)) (subst (λ t. AddsMarks s (m ∷ []) 0 y t) (sym (e ∙ same)) (adds-lower s w m y p.inside f p.false_now b (below c j)))
      where
        below : level_of s m ≤ current_level s → (level_of s m ≡ current_level s → ⊥) → level_of s m < current_level s
        below b j = grind arith

        same : record y { clause = clause; flags = set y.flags v true; met = met } ≡ record y
            { clause = y.clause ++ m ∷ []; flags = set y.flags (variable_of m) true; met = y.met ++ variable_of m ∷ [] }
        same =
            ap (λ (t : Clause). record y { clause = t; flags = set y.flags v true; met = met }) ce
            ∙ ap (λ (t : ℕ). record y { clause = y.clause ++ m ∷ []; flags = set y.flags t true; met = met }) o
            ∙ ap (λ (t : List ℕ). record y { clause = y.clause ++ m ∷ []; flags = set y.flags (variable_of m) true; met = t })
            (te ∙ ap (λ (t : ℕ). y.met ++ t ∷ []) r)
