-- Places, variables and levels of a well-formed view, which most proofs read.
use Rattle.std.proofs.Common.{◌≡◌, ℕ, zero, suc, ◌-◌, ◌<◌, ◌≤◌, true, List, [], ◌∷◌, length, get_or, take, ◌⊎◌, inl, inr, ⊎_elim, refl, sym, ap, ◌∙◌, subst, arith}
use Rattle.std.proofs.lemmas.Bool.{cases_lt}
use Rattle.varisat_theory.specs.promises.Membership.{◌∈◌, SameSet}
use Rattle.varisat_theory.specs.promises.Literals.{Literal, Clause, variable_of, opposite}
use Rattle.varisat_theory.specs.promises.Propagation.{IsFalse}
use Rattle.varisat_theory.specs.promises.Analysis.{Implied, ByReason}
use Rattle.varisat_theory.proofs.clauses.Members.{∈-append_right, ∈-append_cases}
use Rattle.varisat_theory.proofs.clauses.Places.{∈-get_or, place_in}
use Rattle.varisat_theory.proofs.clauses.Values.{opposite_twice, same_or_opposite, variable-opposite}
use Rattle.varisat_prop.specs.declared.prop.graph.Reason.{Reason}
use Rattle.varisat_prop.specs.declared.prop.graph.Reason.TheVariants as reason
use Rattle.varisat_prop.specs.declared.prop.graph.ImplNode.{ImplNode}
use Rattle.varisat_prop.specs.declared.prop.graph.Conflict.{Conflict}
use Rattle.varisat_prop.specs.declared.prop.graph.Conflict.TheVariants as conflict
use Rattle.varisat_clause.specs.Stored.{literals_of, AreReordered}
use Rattle.varisat_clause.proofs.StoredClauses.{reordered-old}
use Rattle.varisat_prop.proofs.views.WellFormedChanges.{stored-kept, kept-here}
use Rattle.varisat_prop.proofs.pairs.KeptPairs.{implied-kept}
use Rattle.varisat_prop.specs.View.{View, pairs_from, kept, clause_at, literal_at, decision_at, no_node, node_of, node_at, level_of, is_clause, IsOnTrailBefore, Implies, IsReason, WellFormed, PropagatedBeforeDecisions, ViewFits}
use Rattle.varisat_prop.specs.Changes.{NamesClause, NamesPlace, others_of, causes_of, named_in, NamesKeptClause, IsConflicting}
use Rattle.varisat_prop.proofs.trails.LiteralValues.{made-clash, made-inside}
use Rattle.varisat_prop.proofs.trails.TrailValues.{trail-true}
use Rattle.varisat_analysis.specs.Learned.{current_level, implying_clause, names_of, reason_clause}

-- where kept clauses are reordered, each was kept before as a set
pub kept-reordered : (s t : View) → AreReordered s.clauses t.clauses → t.binary ≡ s.binary → (c : Clause) → c ∈ kept t → (d : Clause) × (d ∈ kept s)
    × SameSet c d
kept-reordered s t a b c h =
    ⊎_elim
    (λ i. let (d, j, e) = reordered-old s.clauses t.clauses a c i in (d, stored-kept s d j, e))
    (λ i. (c, ∈-append_right c (literals_of s.clauses) (pairs_from 0 s.binary) (subst (λ B. c ∈ pairs_from 0 B) b i), ((λ l j. j), (λ l j. j))))
    (∈-append_cases c (literals_of t.clauses) (pairs_from 0 t.binary) h)

-- a clause that is named is kept, its literals in one of the orders
pub named-kept : (s : View) → WellFormed s → (f : Conflict) → NamesKeptClause s f → (d : Clause) × (d ∈ kept s) × SameSet d (named_in s.clauses f)
named-kept s w (conflict.Binary ms) (l, m, e, i) = subst (λ x. (d : Clause) × (d ∈ kept s) × SameSet d x) (sym e) (implied-kept s w l m i)
named-kept s w (conflict.Long p) h = (clause_at s p, kept-here s p h, ((λ x i. i), (λ x i. i)))

pub named-place : (s : View) (f : Conflict) → NamesKeptClause s f → NamesPlace s.clauses f
named-place s (conflict.Binary ms) h = tt
named-place s (conflict.Long p) h = h

pub level-opposite : (s : View) (m : Literal) → level_of s (opposite m) ≡ level_of s m
level-opposite s m = ap (λ v. (get_or s.nodes v no_node).level) (variable-opposite m)

-- what was read is the literal's level
pub level-read : (s : View) (nodes : List ImplNode) (m v r : ℕ) → nodes ≡ s.nodes → v ≡ variable_of m → r ≡ (get_or nodes v no_node).level → r ≡ level_of s m
level-read s nodes m v r e f h = h ∙ ap (λ x. (get_or x v no_node).level) e ∙ ap (λ x. (get_or s.nodes x no_node).level) f

pub reason-read : (s : View) (nodes : List ImplNode) (m v : ℕ) (r : Reason) → nodes ≡ s.nodes → v ≡ variable_of m →
    r ≡ (get_or nodes v no_node).reason → r ≡ (node_of s m).reason
reason-read s nodes m v r e f h = h ∙ ap (λ x. (get_or x v no_node).reason) e ∙ ap (λ x. (get_or s.nodes x no_node).reason) f

-- the node of a true or false literal can be read
pub read-inside : (s : View) (w : WellFormed s) (nodes : List ImplNode) (m v : ℕ) → nodes ≡ s.nodes → v ≡ variable_of m → opposite m ∈ s.trail →
    v < length nodes
read-inside s w nodes m v e f h =
    let a = made-inside s.values (opposite m) (trail-true s w (opposite m) h) in
    let o = variable-opposite m in
    let n = w.nodes_are in
    let l = ap (λ x. length x) e in
    omega (arith, a, o, n, l, f)

pub level-same : (s : View) (l m : Literal) → variable_of l ≡ variable_of m → level_of s l ≡ level_of s m
level-same s l m e = ap (λ v. (get_or s.nodes v no_node).level) e

module _ (s : View) (w : WellFormed s) where
  -- two places with one variable are one
  pub same-place : (j k : ℕ) → j < length s.trail → k < length s.trail → variable_of (literal_at s j) ≡ variable_of (literal_at s k) → j ≡ k
  same-place j k a b e =
      let g : (node_at s j).depth ≡ (node_at s k).depth = ap (λ v. (get_or s.nodes v no_node).depth) e in
      let d = w.depth_is j a in
      let d' = w.depth_is k b in
      omega (arith, d, d', g)

  pub place-of : (x : Literal) → x ∈ s.trail → IsOnTrailBefore s (length s.trail) x
  place-of x h = let (k, a, e) = place_in x s.trail 0 h in (k, a, e)

  pub stands-∈ : (i : ℕ) (x : Literal) → i ≤ length s.trail → IsOnTrailBefore s i x → x ∈ s.trail
  stands-∈ i x h (k, a, e) = subst (λ y. y ∈ s.trail) e (∈-get_or s.trail k 0 (omega (arith, a, h)))

  -- a literal and its opposite are not both true
  pub no-clash : (x : Literal) → x ∈ s.trail → opposite x ∈ s.trail → ⊥
  no-clash x h k = made-clash s.values x (trail-true s w x h) (trail-true s w (opposite x) k)

  -- one of the literals of a variable is true at most
  pub true-same : (x y : Literal) → x ∈ s.trail → y ∈ s.trail → variable_of x ≡ variable_of y → x ≡ y
  true-same x y h k e = ⊎_elim (λ f. f) (λ f. absurd (no-clash y k (subst (λ z. z ∈ s.trail) f h))) (same_or_opposite x y e)

  pub false-same : (l m : Literal) → opposite l ∈ s.trail → opposite m ∈ s.trail → variable_of l ≡ variable_of m → l ≡ m
  false-same l m h k e =
      let f : opposite l ≡ opposite m = true-same (opposite l) (opposite m) h k (variable-opposite l ∙ e ∙ sym (variable-opposite m)) in
      sym (opposite_twice l) ∙ ap opposite f ∙ opposite_twice m

  pub inside : (m : Literal) → opposite m ∈ s.trail → variable_of m < length s.nodes
  inside m h =
      let a = made-inside s.values (opposite m) (trail-true s w (opposite m) h) in
      let e = variable-opposite m in
      let n = w.nodes_are in
      omega (arith, a, e, n)

  pub inside-at : (k : ℕ) → k < length s.trail → variable_of (literal_at s k) < length s.nodes
  inside-at k h =
      let a = made-inside s.values (literal_at s k) (w.is_true k h) in
      let n = w.nodes_are in
      omega (arith, a, n)

  pub level-small : (m : Literal) → opposite m ∈ s.trail → level_of s m ≤ current_level s
  level-small m h =
      let (k, a, e) = place_in (opposite m) s.trail 0 h in
      let l = w.levels_to k a in
      let f = ap (level_of s) e in
      let g = level-opposite s m in
      omega (arith, l, f, g)

  -- the other literals of a clause that is a reason stand before the literal
  pub reason-before : (k : ℕ) (r : Reason) (m : Literal) → IsReason s k r → m ∈ implying_clause s (literal_at s k) r → (m ≡ literal_at s k)
      ⊎ IsOnTrailBefore s k (opposite m)
  reason-before k reason.Unit m h i = absurd i
  reason-before k (reason.Binary ms) m (n, e, a, b) i = ⊎_elim
      inl
      (λ j. ⊎_elim (λ f. inr (subst (λ x. IsOnTrailBefore s k (opposite x)) (sym f) b)) (λ z. absurd z) (subst (λ x. m ∈ x) e j))
      i
  reason-before k (reason.Long c) m h i = by (clause_at s c) h.1 i
    where
      by : (d : Clause) → Implies s d k → m ∈ d → (m ≡ literal_at s k) ⊎ IsOnTrailBefore s k (opposite m)
      by [] g j = absurd j
      by (x ∷ d) g (inl e) = inl (e ∙ g.0)
      by (x ∷ d) g (inr j) = inr (g.1 m j)

  -- what the reason of the literal at place k makes false stands before it
  pub causes-before : (k : ℕ) (x : Literal) → k < length s.trail → x ∈ s.trail → opposite x ∈ reason_clause s (literal_at s k) → IsOnTrailBefore s k x
  causes-before k x h t i =
      ⊎_elim
      (λ e. absurd (no-clash x t (subst (λ y. y ∈ s.trail) (sym e) (∈-get_or s.trail k 0 h))))
      (λ b. subst (IsOnTrailBefore s k) (opposite_twice x) b)
      (reason-before k (node_at s k).reason (opposite x) (w.reason_is k h) i)

  -- a reason's clause is kept
  pub reason-kept : (k : ℕ) (r : Reason) → is_clause r ≡ true → IsReason s k r → (d : Clause) × (d ∈ kept s) × SameSet d (implying_clause s (literal_at s k) r)
  reason-kept k reason.Unit c h = absurd cc
  reason-kept k (reason.Binary ms) c (m, e, a, b) = subst (λ x. (d : Clause) × (d ∈ kept s) × SameSet d x)
      (ap (λ x. literal_at s k ∷ x ∷ []) (opposite_twice m) ∙ ap (λ x. literal_at s k ∷ x) (sym e)) (implied-kept s w (opposite m) (literal_at s k) a)
  reason-kept k (reason.Long p) c h = (clause_at s p, kept-here s p h.0, ((λ x i. i), (λ x i. i)))

  -- and has the literal first
  pub reason-first : (k : ℕ) (r : Reason) → is_clause r ≡ true → IsReason s k r → literal_at s k ∈ implying_clause s (literal_at s k) r
  reason-first k reason.Unit c h = absurd cc
  reason-first k (reason.Binary ms) c h = inl refl
  reason-first k (reason.Long p) c h = by (clause_at s p) h.1
    where
      by : (d : Clause) → Implies s d k → literal_at s k ∈ d
      by [] g = absurd g
      by (x ∷ d) g = inl (sym g.0)

  -- the clause is the literal and what the reason makes false, which is false by literals before it
  pub reason-split : (k : ℕ) (r : Reason) (m : Literal) → IsReason s k r → m ∈ implying_clause s (literal_at s k) r → (m ≡ literal_at s k)
      ⊎ ((m ∈ causes_of s.clauses r) × IsOnTrailBefore s k (opposite m))
  reason-split k reason.Unit m h i = absurd i
  reason-split k (reason.Binary ms) m h (inl e) = inl e
  reason-split k (reason.Binary ms) m (n, e, a, b) (inr i) = inr
      (i, ⊎_elim (λ f. subst (λ x. IsOnTrailBefore s k (opposite x)) (sym f) b) (λ z. absurd z) (subst (λ x. m ∈ x) e i))
  reason-split k (reason.Long p) m h i = by (clause_at s p) h.1 i
    where
      by : (d : Clause) → Implies s d k → m ∈ d → (m ≡ literal_at s k) ⊎ ((m ∈ others_of d) × IsOnTrailBefore s k (opposite m))
      by [] g j = absurd j
      by (x ∷ d) g (inl e) = inl (e ∙ g.0)
      by (x ∷ d) g (inr j) = inr (j, g.1 m j)

  -- a name of it names it
  pub reason-named : (k : ℕ) (r : Reason) (g : Conflict) → IsReason s k r → g ∈ names_of (literal_at s k) r → NamesKeptClause s g
      × (named_in s.clauses g ≡ implying_clause s (literal_at s k) r)
  reason-named k reason.Unit g h i = absurd i
  reason-named k (reason.Binary ms) g (m, e, a, b) (inl f) = subst (λ x. NamesKeptClause s x × (named_in s.clauses x ≡ literal_at s k ∷ ms)) (sym f)
      ((opposite m, literal_at s k, ap (λ x. literal_at s k ∷ x) e ∙ ap (λ x. literal_at s k ∷ x ∷ []) (sym (opposite_twice m)), a), refl)
  reason-named k (reason.Binary ms) g h (inr z) = absurd z
  reason-named k (reason.Long p) g h (inl f) = subst (λ x. NamesKeptClause s x × (named_in s.clauses x ≡ clause_at s p)) (sym f) (h.0, refl)
  reason-named k (reason.Long p) g h (inr z) = absurd z

  pub last-in : 0 < current_level s → length s.decisions - 1 < length s.decisions
  last-in d = omega (arith, d)

  -- where the last level began with propagation at its end, a false clause has a literal of the current level
  pub has-late : (f : Conflict) → PropagatedBeforeDecisions s → 0 < current_level s → IsConflicting s f → (m : Literal) × (m ∈ named_in s.clauses f)
      × (level_of s m ≡ current_level s)
  has-late f q d c =
      let (x, j, same) = named-kept s w f c.0 in
      ⊎_elim
      (λ l. l)
      (λ n. absurd ((q (length s.decisions - 1) (last-in d)).no_false (
        x,
        j,
        λ m o'.
            let h = same.0 m o' in
            let (k, a, e) = place_in (opposite m) s.trail 0 (c.1 m h) in
            let v : (node_at s k).level ≡ level_of s (opposite m) = ap (level_of s) e in
            let g = level-opposite s m in
            let o = n m h in
            let b : k < decision_at s (length s.decisions - 1) = w.levels_up k (length s.decisions - 1) a (last-in d) (omega (arith, v, g, o)) in
            subst (λ x. x ∈ take (decision_at s (length s.decisions - 1)) s.trail) e (place-take (decision_at s (length s.decisions - 1)) s.trail k b a),
      )))
      (search-late (named_in s.clauses f) c.1)
    where
      search-late : (xs : Clause) → IsFalse s.trail xs → ((m : Literal) × (m ∈ xs) × (level_of s m ≡ current_level s))
          ⊎ ((m : Literal) → m ∈ xs → level_of s m < current_level s)
      search-late [] f = inr (λ m h. absurd h)
      search-late (x ∷ xs) f =
          ⊎_elim
          (λ (a : level_of s x < current_level s). ⊎_elim (λ (m, h, e). inl (m, inr h, e))
          (λ n. inr (λ m h. ⊎_elim (λ e. subst (λ y. level_of s y < current_level s) (sym e) a) (n m) h)) (search-late xs (λ m h. f m (inr h))))
          (λ (a : current_level s ≤ level_of s x). let b = level-small x (f x (inl refl)) in inl (x, inl refl, omega (arith, a, b)))
          (cases_lt (level_of s x) (current_level s))

      place-take : (n : ℕ) (xs : List ℕ) (j : ℕ) → j < n → j < length xs → get_or xs j 0 ∈ take n xs
      place-take zero xs j h l = absurd (omega arith)
      place-take (suc n) [] j h l = absurd (omega arith)
      place-take (suc n) (y ∷ xs) zero h l = inl refl
      place-take (suc n) (y ∷ xs) (suc j) h l = inr (place-take n xs j (omega arith) (omega arith))

  -- the places below one of level 0 are of level 0
  pub zero-below : (j k : ℕ) → j < k → k < length s.trail → (node_at s k).level ≡ 0 → (node_at s j).level ≡ 0
  zero-below j k l h z =
      ⊎_elim
      (λ (d : 0 < length s.decisions). let o = w.levels_up k 0 h d (omega (arith, z)) in
      let q = w.levels_down j 0 (omega (arith, l, h)) d (omega (arith, o, l)) in omega (arith, q))
      (λ (d : length s.decisions ≤ 0). let q = w.levels_to j (omega (arith, l, h)) in omega (arith, q, d))
      (cases_lt 0 (length s.decisions))

  -- a literal with a kept clause as its reason is implied where the opposites of the clause's others are
  pub implied-by : (held : List Clause) (base : List Literal) → ViewFits held s → (k : ℕ) (r : Reason) → is_clause r ≡ true → IsReason s k r →
      ((m : Literal) → m ∈ implying_clause s (literal_at s k) r → IsOnTrailBefore s k (opposite m) → Implied held base (opposite m)) →
      Implied held base (literal_at s k)
  implied-by held base f k r c h g =
      let (x, y, z) = reason-kept k r c h in
      let (d, i, e) = f.stored x y in
      ByReason d i (e.1 (literal_at s k) (z.1 (literal_at s k) (reason-first k r c h)))
      (λ m j n. let o = z.0 m (e.0 m j) in ⊎_elim (λ q. absurd (n q)) (g m o) (reason-before k r m h o))

  -- what is true at level 0 is implied by the held clauses alone
  pub fixed-at : (held : List Clause) → ViewFits held s → (n k : ℕ) → k < n → k < length s.trail → (node_at s k).level ≡ 0 → Implied held [] (literal_at s k)
  fixed-at held f zero k l h z = absurd (omega arith)
  fixed-at held f (suc n) k l h z = by (node_at s k).reason refl (w.reason_is k h) (λ o a b y. fixed-at held f n o a b y)
    where
      by : (r : Reason) → (node_at s k).reason ≡ r → IsReason s k r →
          ((o : ℕ) → o < n → o < length s.trail → (node_at s o).level ≡ 0 → Implied held [] (literal_at s o)) → Implied held [] (literal_at s k)
      by reason.Unit e i rec = let (d, j, u) = f.units k h z e in ByReason d j u.0 (λ m q o. absurd (o (u.1 m q)))
      by (reason.Binary ms) e i rec =
          implied-by held [] f k (reason.Binary ms) refl i
          (λ m q (o, a, b). subst (λ y. Implied held [] y) b (rec o (omega (arith, a, l)) (omega (arith, a, h)) (zero-below o k a h z)))
      by (reason.Long c) e i rec =
          implied-by held [] f k (reason.Long c) refl i
          (λ m q (o, a, b). subst (λ y. Implied held [] y) b (rec o (omega (arith, a, l)) (omega (arith, a, h)) (zero-below o k a h z)))

  pub fixed-implied : (held : List Clause) → ViewFits held s → (m : Literal) → opposite m ∈ s.trail → level_of s m ≡ 0 → Implied held [] (opposite m)
  fixed-implied held f m t z =
      let (k, a, e) = place_in (opposite m) s.trail 0 t in
      let g : (node_at s k).level ≡ level_of s (opposite m) = ap (level_of s) e in
      let h = level-opposite s m in
      subst (λ y. Implied held [] y) e (fixed-at held f (suc k) k (omega arith) a (omega (arith, g, h, z)))

  -- the reason of a true literal names a clause, and makes its others false
  pub names-clause : (x : Literal) → x ∈ s.trail → NamesClause s.clauses (node_of s x).reason
  names-clause x h =
      let (k, a, e) = place_in x s.trail 0 h in
      subst (λ y. NamesClause s.clauses (node_of s y).reason) e (by k (node_at s k).reason (w.reason_is k a))
    where
      by : (k : ℕ) (r : Reason) → IsReason s k r → NamesClause s.clauses r
      by k reason.Unit i = tt
      by k (reason.Binary ms) i = tt
      by k (reason.Long c) i = (i.0, let n = w.several (clause_at s c) (kept-here s c i.0) in omega (arith, n))

  pub causes-false : (x : Literal) → x ∈ s.trail → IsFalse s.trail (causes_of s.clauses (node_of s x).reason)
  causes-false x h =
      let (k, a, e) = place_in x s.trail 0 h in
      subst (λ y. IsFalse s.trail (causes_of s.clauses (node_of s y).reason)) e
      (λ m i. stands-∈ k (opposite m) (omega (arith, a)) (by k (node_at s k).reason (w.reason_is k a) m i))
    where
      before : (k : ℕ) (c : Clause) → Implies s c k → (m : Literal) → m ∈ others_of c → IsOnTrailBefore s k (opposite m)
      before k [] q m i = absurd i
      before k (y ∷ c) q m i = q.1 m i

      by : (k : ℕ) (r : Reason) → IsReason s k r → (m : Literal) → m ∈ causes_of s.clauses r → IsOnTrailBefore s k (opposite m)
      by k reason.Unit q m i = absurd i
      by k (reason.Binary ms) (n, e, a, b) m i = ⊎_elim (λ f. subst (λ x. IsOnTrailBefore s k (opposite x)) (sym f) b) (λ z. absurd z) (subst (λ x. m ∈ x) e i)
      by k (reason.Long c) q m i = before k (clause_at s c) q.1 m i

  pub inside-true : (x : Literal) → x ∈ s.trail → variable_of x < length s.nodes
  inside-true x h = let (k, a, e) = place_in x s.trail 0 h in subst (λ y. variable_of y < length s.nodes) e (inside-at k a)

pub has-clause : (r : Reason) → (r ≡ reason.Unit → ⊥) → is_clause r ≡ true
has-clause reason.Unit n = absurd (n refl)
has-clause (reason.Binary ms) n = refl
has-clause (reason.Long i) n = refl
