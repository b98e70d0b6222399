-- What `minimize` leaves follows.
use Rattle.std.proofs.Common.{◌≡◌, ℕ, zero, suc, ◌+◌, ◌<◌, ◌≤◌, Bool, List, [], ◌∷◌, length, get_or, set, take, ◌⊎◌, inl, inr, ⊎_elim, refl, sym, ap, ◌∙◌, subst, arith, add-one, length-set, get_or-set_other}
use Rattle.std.proofs.lemmas.Bool.{cases_lt}
use Rattle.varisat_theory.specs.promises.Membership.{◌∈◌, IsDistinct}
use Rattle.varisat_theory.specs.promises.Literals.{Literal, Clause, variable_of, opposite, opposites}
use Rattle.varisat_theory.specs.promises.Analysis.{Implied, Known, ByReason}
use Rattle.varisat_theory.proofs.clauses.Members.{∈-append_left, ∈-append_right, ∈-append_cases}
use Rattle.varisat_theory.proofs.clauses.Places.{∈-get_or, place_in, place_in_take}
use Rattle.varisat_theory.proofs.clauses.Values.{opposite_twice, ∈-opposites, variable-opposite}
use Rattle.varisat_theory.proofs.clauses.Implication.{implied_alone}
use Rattle.varisat_theory.proofs.clauses.Learning.{follows_shorter}
use Rattle.varisat_prop.specs.View.{View, literal_at, node_at, level_of, WellFormed, ViewFits}
use Rattle.varisat_prop.proofs.pairs.DistinctPlaces.{distinct-places}
use Rattle.varisat_analysis.specs.Flags.{IsFlagged}
use Rattle.varisat_analysis.specs.Marks.{Marking, IsMarkOf, OfClause, OfCurrentLevel, MarksAreListed, Marks, IsMinimized, Minimizes}
use Rattle.varisat_analysis.specs.Redundancy.{IsReasoned, ListsNew, IsRedundant, IsAsBefore}
use Rattle.varisat_analysis.proofs.AnalysisMarks.{take-grow, take-last}
use Rattle.varisat_analysis.proofs.AnalysisSearch.{reasoned-more}
use Rattle.varisat_analysis.proofs.WellFormedViews.{reason-kept, reason-first, reason-split, level-opposite, true-same, fixed-implied}

-- the literal is one of the clause from place i on
abbrev pub IsLeft : Clause → ℕ → Literal → Type 0
IsLeft c i m = (j : ℕ) × (i ≤ j) × (j < length c) × (get_or c j 0 ≡ m)

-- The literals of the clause before place i were looked at, and the first k of the changed one are those that were kept.
pub record Minimizing (s : View) (x y : Marking) (k i : ℕ) : Type 0 where
  pub less : k ≤ i
  pub long : length y.clause ≡ length x.clause
  pub rest : (j : ℕ) → i ≤ j → get_or y.clause j 0 ≡ get_or x.clause j 0
  pub unlike : IsDistinct x.clause
  pub distinct : IsDistinct (take k y.clause)
  pub part : (m : Literal) → m ∈ take k y.clause → m ∈ take i x.clause
  pub fall : (m : Literal) → m ∈ x.clause → (opposite m ∈ s.trail) × IsFlagged y.flags (variable_of m)
  pub explained : (l : Literal) → l ∈ s.trail → IsFlagged y.flags (variable_of l) → (opposite l ∈ take k y.clause)
      ⊎ (IsLeft x.clause i (opposite l) ⊎ IsReasoned s y.flags l)
  pub cleaned : MarksAreListed y
  pub involved : y.involved ≡ x.involved
  pub met : y.met ≡ x.met

pub minimizing-start : {s : View} {x : Marking} → WellFormed s → length x.flags ≡ length s.nodes → Marks s 0 x → Minimizing s x x 0 0
minimizing-start {s = s} {x = x} w n k = record {
  less = omega arith;
  long = refl;
  rest = λ j h. refl;
  unlike = k.distinct;
  distinct = tt;
  part = λ m h. absurd h;
  fall = λ m h. ((k.lower m h).false_now, k.marked m h);
  explained = λ l i m. by l i (k.known (variable_of l) m);
  cleaned = record {
    marked = λ v m. inl (met-of v (k.known v m));
    met = λ v i. let a = k.met v i in omega (arith, a, n);
    listed = λ v i. let a = k.listed v i in omega (arith, a, n);
  };
  involved = refl;
  met = refl;
}
  where
    by : (l : Literal) → l ∈ s.trail → IsMarkOf s 0 x (variable_of l) → (opposite l ∈ take 0 x.clause)
        ⊎ (IsLeft x.clause 0 (opposite l) ⊎ IsReasoned s x.flags l)
    by l i (OfClause y j e z) =
        let o : opposite y ≡ l = true-same s w (opposite y) l (k.lower y j).false_now i (variable-opposite y ∙ e) in
        let (p, a, q) = place_in y x.clause 0 j in
        inr (inl (p, omega arith, a, q ∙ sym (opposite_twice y) ∙ ap opposite o))
    by l i (OfCurrentLevel y a p e) = absurd (omega (arith, a))

    met-of : (v : ℕ) → IsMarkOf s 0 x v → v ∈ x.met
    met-of v (OfClause y j e z) = z
    met-of v (OfCurrentLevel y a p e) = absurd (omega (arith, a))

left-next : (c : Clause) (i : ℕ) (m : Literal) → IsLeft c i m → (m ≡ get_or c i 0) ⊎ IsLeft c (i + 1) m
left-next c i m (j, a, b, e) =
    ⊎_elim
    (λ (h : i < j). inr (j, omega (arith, h), b, e))
    (λ (h : j ≤ i). let q : j ≡ i = omega (arith, a, h) in inl (sym e ∙ ap (λ x. get_or c x 0) q))
    (cases_lt i j)

-- the first k + 1 elements after a write at place k
take-set-new : (xs : List ℕ) (k x : ℕ) → k < length xs → x ∈ take (suc k) (set xs k x)
take-set-new [] k x h = absurd (omega arith)
take-set-new (y ∷ xs) zero x h = inl refl
take-set-new (y ∷ xs) (suc k) x h = inr (take-set-new xs k x (omega arith))

take-set-old : (xs : List ℕ) (k x m : ℕ) → k < length xs → m ∈ take k xs → m ∈ take (suc k) (set xs k x)
take-set-old [] k x m h i = absurd (omega arith)
take-set-old (y ∷ xs) zero x m h i = absurd i
take-set-old (y ∷ xs) (suc k) x m h (inl e) = inl e
take-set-old (y ∷ xs) (suc k) x m h (inr i) = inr (take-set-old xs k x m (omega arith) i)

take-set-cases : (xs : List ℕ) (k x m : ℕ) → k < length xs → m ∈ take (suc k) (set xs k x) → (m ∈ take k xs) ⊎ (m ≡ x)
take-set-cases [] k x m h i = absurd (omega arith)
take-set-cases (y ∷ xs) zero x m h (inl e) = inr e
take-set-cases (y ∷ xs) zero x m h (inr i) = absurd i
take-set-cases (y ∷ xs) (suc k) x m h (inl e) = inl (inl e)
take-set-cases (y ∷ xs) (suc k) x m h (inr i) = ⊎_elim (λ j. inl (inr j)) inr (take-set-cases xs k x m (omega arith) i)

take-set-distinct : (xs : List ℕ) (k x : ℕ) → k < length xs → IsDistinct (take k xs) → (x ∈ take k xs → ⊥) → IsDistinct (take (suc k) (set xs k x))
take-set-distinct [] k x h d n = absurd (omega arith)
take-set-distinct (y ∷ xs) zero x h d n = ((λ i. i), tt)
take-set-distinct (y ∷ xs) (suc k) x h d n =
    ((λ i. ⊎_elim d.0 (λ e. n (inl (sym e))) (take-set-cases xs k x y (omega arith) i)), take-set-distinct xs k x (omega arith) d.1 (λ i. n (inr i)))

not-earlier : (c : Clause) (i : ℕ) → IsDistinct c → i < length c → get_or c i 0 ∈ take i c → ⊥
not-earlier c i d h k = let (j, a, b, e) = place_in_take (get_or c i 0) c i 0 k in distinct-places c 0 d j i a h e

-- the literal at the place is kept
pub minimizing-keep : {s : View} {x y z : Marking} {k i : ℕ} (m : Literal) → length z.flags ≡ length y.flags → i < length x.clause →
    m ≡ get_or y.clause i 0 → IsAsBefore y z → Minimizing s x y k i → Minimizing s x (record z { clause = set z.clause k m }) (k + 1) (i + 1)
minimizing-keep {s = s} {x = x} {y = y} {z = z} {k = k} {i = i} m same h e n a = record {
  less = let l = a.less in omega (arith, l);
  long = length-set z.clause k m ∙ ap (λ (q : List ℕ). length q) n.clause ∙ a.long;
  rest = λ j l. get_or-set_other z.clause k j m 0 (λ o. let b = a.less in absurd (omega (arith, o, l, b))) ∙ ap (λ q. get_or q j 0) n.clause
      ∙ a.rest j (omega (arith, l));
  unlike = a.unlike;
  distinct = subst (λ q. IsDistinct (take q (set z.clause k m))) (sym (add-one k))
      (take-set-distinct z.clause k m inside (subst (λ q. IsDistinct (take k q)) (sym n.clause) a.distinct)
      (λ o. not-earlier x.clause i a.unlike h (subst (λ q. q ∈ take i x.clause) is (a.part m (before m o)))));
  part = λ j o. ⊎_elim (λ q. take-grow i x.clause j (a.part j (before j q)))
      (λ q. subst (λ v. v ∈ take (i + 1) x.clause) (sym (q ∙ is)) (take-last i x.clause h))
      (take-set-cases z.clause k m j inside (subst (λ v. j ∈ take v (set z.clause k m)) (add-one k) o));
  fall = λ j o. let (b, q) = a.fall j o in (b, n.flags (variable_of j) ∙ q);
  explained = λ l j o. ⊎_elim
      (λ q. inl (old (opposite l) q))
      (λ q. ⊎_elim
      (λ v. ⊎_elim (λ b. inl (subst (λ p. p ∈ take (k + 1) (set z.clause k m)) (sym (b ∙ sym is)) new-in)) (λ b. inr (inl b))
      (left-next x.clause i (opposite l) v))
      (λ v. inr (inr (reasoned-more s y.flags z.flags l (λ p r. n.flags p ∙ r) v)))
      q)
      (a.explained l j (sym (n.flags (variable_of l)) ∙ o));
  cleaned = record {
    marked = λ v o. ⊎_elim (λ i. inl (subst (λ q. v ∈ q) (sym n.met) i)) (λ i. inr (subst (λ q. v ∈ q) (sym n.to_clean) i))
        (a.cleaned.marked v (sym (n.flags v) ∙ o));
    met = λ v o. let b = a.cleaned.met v (subst (λ q. v ∈ q) n.met o) in omega (arith, b, same);
    listed = λ v o. let b = a.cleaned.listed v (subst (λ q. v ∈ q) n.to_clean o) in omega (arith, b, same);
  };
  involved = n.involved ∙ a.involved;
  met = n.met ∙ a.met;
}
  where
    is : m ≡ get_or x.clause i 0
    is = e ∙ a.rest i (omega arith)

    inside : k < length z.clause
    inside = let l = a.less in let o = a.long in let p = ap (λ (q : List ℕ). length q) n.clause in omega (arith, l, o, p, h)

    before : (j : Literal) → j ∈ take k z.clause → j ∈ take k y.clause
    before j o = subst (λ q. j ∈ take k q) n.clause o

    new-in : m ∈ take (k + 1) (set z.clause k m)
    new-in = subst (λ q. m ∈ take q (set z.clause k m)) (sym (add-one k)) (take-set-new z.clause k m inside)

    old : (j : Literal) → j ∈ take k y.clause → j ∈ take (k + 1) (set z.clause k m)
    old j o = subst (λ v. j ∈ take v (set z.clause k m)) (sym (add-one k)) (take-set-old z.clause k m j inside (subst (λ q. j ∈ take k q) (sym n.clause) o))

-- the literal at the place is left out
pub minimizing-drop : {s : View} {x y z : Marking} {k i : ℕ} (m : Literal) → length z.flags ≡ length y.flags → i < length x.clause →
    m ≡ get_or y.clause i 0 → IsRedundant s m y z → Minimizing s x y k i → Minimizing s x z k (i + 1)
minimizing-drop {s = s} {x = x} {y = y} {z = z} {k = k} {i = i} m same h e r a = record {
  less = let b = a.less in omega (arith, b);
  long = ap (λ (q : List ℕ). length q) l.clause ∙ a.long;
  rest = λ j o. ap (λ q. get_or q j 0) l.clause ∙ a.rest j (omega (arith, o));
  unlike = a.unlike;
  distinct = subst (λ q. IsDistinct (take k q)) (sym l.clause) a.distinct;
  part = λ j o. take-grow i x.clause j (a.part j (subst (λ q. j ∈ take k q) l.clause o));
  fall = λ j o. let (b, q) = a.fall j o in (b, l.more (variable_of j) q);
  explained = λ j o q. ⊎_elim
      (λ t. ⊎_elim (λ b. inl (subst (λ c. opposite j ∈ take k c) (sym l.clause) b))
      (λ v. ⊎_elim
      (λ b. ⊎_elim (λ p. inr (inr (subst (IsReasoned s z.flags) (ap opposite (e ∙ a.rest i (omega arith) ∙ sym p) ∙ opposite_twice j) r.reasoned)))
      (λ p. inr (inl p)) (left-next x.clause i (opposite j) b))
      (λ b. inr (inr (reasoned-more s y.flags z.flags j l.more b)))
      v)
      (a.explained j o t))
      (λ t. inr (inr t))
      (r.others j o q);
  cleaned = record {
    marked = λ v o. ⊎_elim
        (λ t. ⊎_elim
        (λ i. inl (subst (λ q. v ∈ q) (sym l.met) i))
        (λ i. inr (subst (λ q. v ∈ q) (sym l.longer) (∈-append_left v y.to_clean l.since i)))
        (a.cleaned.marked v t))
        (λ t. inr (subst (λ q. v ∈ q) (sym l.longer) (∈-append_right v y.to_clean l.since t)))
        (l.listed v o);
    met = λ v o. let b = a.cleaned.met v (subst (λ q. v ∈ q) l.met o) in omega (arith, b, same);
    listed = λ v o. ⊎_elim (λ t. let b = a.cleaned.listed v t in omega (arith, b, same)) (λ t. let b = l.inside v t in omega (arith, b, same))
        (∈-append_cases v y.to_clean l.since (subst (λ q. v ∈ q) l.longer o));
  };
  involved = l.involved ∙ a.involved;
  met = l.met ∙ a.met;
}
  where
    l : ListsNew y z
    l = r.list

module _ (s : View) (w : WellFormed s) (held : List Clause) (fits : ViewFits held s) (kept : Clause) (f : List Bool)
    (given : (x : Literal) → x ∈ s.trail → IsFlagged f (variable_of x) → (opposite x ∈ kept) ⊎ IsReasoned s f x) where
  -- what is marked is implied by the opposites of what is kept
  marked-at : (n k : ℕ) → k < n → k < length s.trail → (level_of s (literal_at s k) ≡ 0) ⊎ IsFlagged f (variable_of (literal_at s k)) →
      Implied held (opposites kept) (literal_at s k)
  marked-at zero k l h o = absurd (omega arith)
  marked-at (suc n) k l h (inl z) =
      let x = literal_at s k in
      subst (λ y. Implied held (opposites kept) y) (opposite_twice x)
      (implied_alone held (opposites kept) (opposite (opposite x))
      (fixed-implied s w held fits (opposite x) (subst (λ y. y ∈ s.trail) (sym (opposite_twice x)) (∈-get_or s.trail k 0 h))
      (let g = level-opposite s x in omega (arith, g, z))))
  marked-at (suc n) k l h (inr m) =
      ⊎_elim
      (λ i. Known (subst (λ y. y ∈ opposites kept) (opposite_twice (literal_at s k)) (∈-opposites (opposite (literal_at s k)) kept i)))
      (λ (e, q).
      let r = (node_at s k).reason in
      let why = w.reason_is k h in
      let (x', y', same) = reason-kept s w k r e why in
      let (d, i, u) = fits.stored x' y' in
      ByReason d i (u.1 (literal_at s k) (same.1 (literal_at s k) (reason-first s w k r e why))) (λ y j o. ⊎_elim
      (λ z. absurd (o z))
      (λ (z, (p, a, b)).
      let v : variable_of (literal_at s p) ≡ variable_of y = ap variable_of b ∙ variable-opposite y in
      let x : level_of s (literal_at s p) ≡ level_of s y = ap (level_of s) b ∙ level-opposite s y in
      subst (λ c. Implied held (opposites kept) c) b (marked-at n p (omega (arith, a, l)) (omega (arith, a, h))
      (⊎_elim (λ c. inl (omega (arith, c, x))) (λ c. inr (subst (IsFlagged f) (sym v) c)) (q y z))))
      (reason-split s w k r y why (same.0 y (u.0 y j)))))
      (given (literal_at s k) (∈-get_or s.trail k 0 h) m)

  pub marked-implied : (m : Literal) → opposite m ∈ s.trail → IsFlagged f (variable_of m) → Implied held (opposites kept) (opposite m)
  marked-implied m h o =
      let (k, a, e) = place_in (opposite m) s.trail 0 h in
      subst (λ y. Implied held (opposites kept) y) e
      (marked-at (suc k) k (omega arith) a (inr (subst (IsFlagged f) (sym (ap variable_of e ∙ variable-opposite m)) o)))

pub minimizing-end : {s : View} {x y : Marking} {k i : ℕ} (left : Clause) → WellFormed s → length x.clause ≤ i → left ≡ take k y.clause →
    Minimizing s x y k i → Minimizes s x (record y { clause = left })
minimizing-end {s = s} {x = x} {y = y} {k = k} {i = i} left w h e a = record {
  minimized = subst (IsMinimized s x.clause) (sym e) record {
    part = λ m z. let (j, p, q, o) = place_in_take m x.clause i 0 (a.part m z) in subst (λ c. c ∈ x.clause) o (∈-get_or x.clause j 0 q);
    distinct = λ d. a.distinct;
    follows = λ first held fits z. follows_shorter held (first ∷ x.clause) (first ∷ take k y.clause) z (λ m o. ⊎_elim
        (λ q. inl (inl q))
        (λ q. inr (let (p, b) = a.fall m q in marked-implied s w held fits (first ∷ take k y.clause) y.flags (given first) m p b))
        o);
  };
  cleaned = record { marked = a.cleaned.marked; met = a.cleaned.met; listed = a.cleaned.listed };
  involved = a.involved;
  met = a.met;
}
  where
    given : (first l : Literal) → l ∈ s.trail → IsFlagged y.flags (variable_of l) → (opposite l ∈ (first ∷ take k y.clause)) ⊎ IsReasoned s y.flags l
    given first l z o = ⊎_elim
        (λ q. inl (inr q))
        (λ q. ⊎_elim (λ (j, p, b, c). absurd (omega (arith, p, b, h))) inr q)
        (a.explained l z o)

-- the literal at the place is false
pub minimizing-false : {s : View} {x y : Marking} {k i : ℕ} (m : Literal) → i < length x.clause → m ≡ get_or y.clause i 0 → Minimizing s x y k i →
    opposite m ∈ s.trail
minimizing-false {x = x} {i = i} m h e a = (a.fall m (subst (λ c. c ∈ x.clause) (sym (e ∙ a.rest i (omega arith))) (∈-get_or x.clause i 0 h))).0
