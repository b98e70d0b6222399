-- Watches that hold go on to hold, and show that propagation came to its end.
use Rattle.std.proofs.Common.{◌≡◌, ◌≢◌, ℕ, zero, suc, ◌<◌, ◌≤◌, ◌++◌, List, [], ◌∷◌, ◌⊎◌, inl, inr, ⊎_elim, length, get_or, take, refl, sym, ap, ◌∙◌, subst, arith}
use Rattle.std.proofs.lemmas.List.{get_or-take, length-take}
use Rattle.std.proofs.lemmas.Bool.{cases_lt}
use Rattle.varisat_theory.specs.promises.Membership.{◌∈◌}
use Rattle.varisat_theory.specs.promises.Literals.{Literal, Clause, opposite}
use Rattle.varisat_theory.specs.promises.Propagation.{IsFalse, LeavesOnly, IsComplete}
use Rattle.varisat_theory.proofs.clauses.Places.{∈-get_or, place_in}
use Rattle.varisat_theory.proofs.clauses.Members.{equal_or_not}
use Rattle.varisat_prop.specs.View.{View, pairs_from, implied_by, IsTrueIn, clause_at, literal_at, decision_at, WellFormed}
use Rattle.varisat_prop.proofs.trails.LiteralValues.{made-clash}
use Rattle.varisat_prop.proofs.pairs.DistinctPlaces.{distinct-places}
use Rattle.varisat_prop.proofs.trails.TrailValues.{on-trail, trail-true}
use Rattle.varisat_prop.specs.declared.prop.watch_list.Watch.{Watch}
use Rattle.varisat_clause.specs.Stored.{literals_of, IsClauseRef, literals_at, with_literals}
use Rattle.varisat_clause.proofs.StoredClauses.{from-literals, stored-found, reordered-place-back, with-reordered, with-same, with-other}
use Rattle.varisat_theory.proofs.clauses.Members.{∈-append_cases}
use Rattle.varisat_theory.proofs.clauses.Values.{opposite_twice}
use Rattle.varisat_prop.specs.Looks.{Propagates}
use Rattle.varisat_prop.proofs.views.ViewGrowth.{grows-longer, literal-stays}
use Rattle.varisat_prop.proofs.views.WellFormedChanges.{kept-here}
use Rattle.varisat_prop.proofs.pairs.KeptPairs.{pair-in}
use Rattle.varisat_prop.proofs.views.ClauseOrder.{reordered}
use Rattle.varisat_prop.specs.Watches.{literal_in, HasWatch, IsSatisfied, IsCovered, WatchesHoldTo, IsImpliedTo, IsRearranged}

pub two : (P : ℕ → Type 0) → P 0 → P 1 → (j : ℕ) → j < 2 → P j
two P a b zero h = a
two P a b (suc zero) h = b
two P a b (suc (suc j)) h = absurd (omega (arith, h))

-- the trail goes on, over the same clauses of two literals and the same decisions
pub record GoesOn (s t : View) : Type 0 where
  pub binary : t.binary ≡ s.binary
  pub decisions : t.decisions ≡ s.decisions
  pub longer : length s.trail ≤ length t.trail
  pub keeps : (k : ℕ) → k < length s.trail → literal_at t k ≡ literal_at s k

-- and over the same clauses of more
pub record Lengthens (s t : View) : Type 0 where
  pub clauses : t.clauses ≡ s.clauses
  pub binary : t.binary ≡ s.binary
  pub decisions : t.decisions ≡ s.decisions
  pub longer : length s.trail ≤ length t.trail
  pub keeps : (k : ℕ) → k < length s.trail → literal_at t k ≡ literal_at s k

pub lengthens-goes-on : (s t : View) → Lengthens s t → GoesOn s t
lengthens-goes-on s t g = record { binary = g.binary; decisions = g.decisions; longer = g.longer; keeps = g.keeps }

covered-longer : (s t : View) (c : Clause) (p : ℕ) → GoesOn s t → IsCovered s c p → IsCovered t c p
covered-longer s t c p g (k, a, m, d) = (
  k,
  (let n = g.longer in omega (arith, a, n)),
  subst (λ x. x ∈ c) (sym (g.keeps k a)) m,
  subst (λ (ds : List ℕ). (j : ℕ) → j < length ds → p < get_or ds j 0 → k < get_or ds j 0) (sym g.decisions) d,
)

pub settled-longer : (s t : View) (q : ℕ) → Lengthens s t → q ≤ length s.trail → WatchesHoldTo s q → WatchesHoldTo t q
settled-longer s t q g n st = λ i j p a b h e.
    let f : clause_at t i ≡ clause_at s i = ap (λ P. literals_at P i) g.clauses in
    subst (λ c. IsCovered t c p) (sym f)
    (covered-longer s t (clause_at s i) p (lengthens-goes-on s t g)
    (st i j p (subst (λ P. IsClauseRef P i) g.clauses a) b h (sym (g.keeps p (omega (arith, h, n))) ∙ e ∙ ap (λ c. opposite (literal_in c j)) f)))

pub implied-longer : (s t : View) (q : ℕ) → GoesOn s t → q ≤ length s.trail → IsImpliedTo s q → IsImpliedTo t q
implied-longer s t q g n st = λ m p h i.
    covered-longer s t (m ∷ []) p g
    (st m p h (subst (λ l. m ∈ implied_by s l) (g.keeps p (omega (arith, h, n)))
    (subst (λ (B : List (List ℕ)). m ∈ get_or B (literal_at t p) []) g.binary i)))

pub propagates-goes-on : (s t : View) → Propagates s t → GoesOn s t
propagates-goes-on s t p = record { binary = p.grows.binary; decisions = p.decisions; longer = grows-longer s t p.grows; keeps = literal-stays s t p.grows }

pub satisfied-longer : (s t : View) (c : Clause) → Lengthens s t → IsSatisfied s c → IsSatisfied t c
satisfied-longer s t c g (k, a, m) = (k, (let n = g.longer in omega (arith, a, n)), subst (λ x. x ∈ c) (sym (g.keeps k a)) m)

-- the literals of one clause change their order: a new one among the first two isn't false by a literal before q
pub settled-reordered : (s : View) (i q : ℕ) (d : Clause) → IsRearranged (clause_at s i) d
    → ((j : ℕ) → j < 2 → ((h : ℕ) × (h < 2) × (literal_in d j ≡ literal_in (clause_at s i) h)) ⊎ ((p : ℕ) → p < q → literal_at s p ≢ opposite (literal_in d j)))
    → WatchesHoldTo s q → WatchesHoldTo (reordered s i d) q
settled-reordered s i q d r w st = λ k j p a b h e.
    let a' : IsClauseRef s.clauses k = reordered-place-back s.clauses (with_literals s.clauses i d) k (with-reordered s.clauses i d r.same) a in
    ⊎_elim
    (λ f.
    let i' : IsClauseRef s.clauses i = subst (IsClauseRef s.clauses) f a' in
    let g : clause_at (reordered s i d) k ≡ d = ap (λ x. clause_at (reordered s i d) x) f ∙ with-same s.clauses i d i' in
    let e' : literal_at s p ≡ opposite (literal_in d j) = e ∙ ap (λ c. opposite (literal_in c j)) g in
    ⊎_elim
    (λ (x, y, z). let (m, u, v, o) = st i x p i' y h (e' ∙ ap opposite z) in (m, u, subst (λ c. literal_at s m ∈ c) (sym g) (r.same.1 (literal_at s m) v), o))
    (λ x. absurd (x p h e'))
    (w j b))
    (λ f.
    let g : clause_at (reordered s i d) k ≡ clause_at s k = with-other s.clauses i k d f in
    let (m, u, v, o) = st k j p a' b h (e ∙ ap (λ c. opposite (literal_in c j)) g) in
    (m, u, subst (λ c. literal_at s m ∈ c) (sym g) v, o))
    (equal_or_not k i)

-- Of the clauses with a false literal l among the first two, those without a watch left are true.
abbrev pub WatchesHoldBut : View → Literal → List Watch → Type 0
WatchesHoldBut s l rest = (i j : ℕ) → IsClauseRef s.clauses i → j < 2 → l ≡ opposite (literal_in (clause_at s i) j) → HasWatch rest i ⊎ IsSatisfied s (clause_at s i)

-- the watches hold to the next literal too, where no decision stands behind it
pub settled-next : (s : View) (q : ℕ) (l : Literal) → literal_at s q ≡ l → ((j : ℕ) → j < length s.decisions → decision_at s j ≤ q) →
    WatchesHoldTo s q → WatchesHoldBut s l [] → WatchesHoldTo s (suc q)
settled-next s q l e d st but = λ i j p a b h f.
    ⊎_elim
    (λ g. st i j p a b g f)
    (λ g. let o : p ≡ q = omega (arith, h, g) in
    let x : l ≡ opposite (literal_in (clause_at s i) j) = sym e ∙ ap (λ y. literal_at s y) (sym o) ∙ f in
    ⊎_elim (λ (w, m, n). absurd m) (λ (k, m, n). (k, m, n, λ y z v. let u = d y z in absurd (omega (arith, v, u, o)))) (but i j a b x))
    (cases_lt p q)

-- where the watches hold to the end, no clause is false and none leaves a literal that isn't true
pub settled-complete : (s : View) → WellFormed s → WatchesHoldTo s (length s.trail) → IsComplete (literals_of s.clauses) s.trail
settled-complete s w st = record {
  no_false = λ (c, h, f). let (i, a, e) = named c h in
      not-false i a (λ m k. f m (subst (λ x. m ∈ x) e k));
  closed = λ c l h k u. let (i, a, e) = named c h in
      closes i a l (λ m n. u m (subst (λ x. m ∈ x) e n));
}
  where
    -- each kept clause is that of a place
    named : (c : Clause) → c ∈ literals_of s.clauses → (i : ℕ) × IsClauseRef s.clauses i × (clause_at s i ≡ c)
    named c h = let (k, j, e) = from-literals s.clauses c h in (k.place, (k, j, refl), ap (λ x. x.literals) (stored-found s.clauses w.places k j) ∙ e)

    long : (i : ℕ) → IsClauseRef s.clauses i → 2 ≤ length (clause_at s i)
    long i a = w.several (clause_at s i) (kept-here s i a)

    -- a false literal among the first two has a true one beside it
    beside : (i j : ℕ) → IsClauseRef s.clauses i → j < 2 → opposite (literal_in (clause_at s i) j) ∈ s.trail → (m : Literal) × (m ∈ clause_at s i) × IsTrueIn s m
    beside i j a b h =
        let (p, x, e) = place_in (opposite (literal_in (clause_at s i) j)) s.trail 0 h in
        let (k, y, m, o) = st i j p a b x e in
        (literal_at s k, m, w.is_true k y)

    first-in : (i j : ℕ) → IsClauseRef s.clauses i → j < 2 → literal_in (clause_at s i) j ∈ clause_at s i
    first-in i j a b = ∈-get_or (clause_at s i) j 0 (let n = long i a in omega (arith, b, n))

    clash : (m : Literal) → IsTrueIn s m → opposite m ∈ s.trail → ⊥
    clash m t h = made-clash s.values m t (trail-true s w (opposite m) h)

    not-false : (i : ℕ) → IsClauseRef s.clauses i → IsFalse s.trail (clause_at s i) → ⊥
    not-false i a f = let (m, h, t) = beside i 0 a (omega arith) (f (literal_in (clause_at s i) 0) (first-in i 0 a (omega arith))) in clash m t (f m h)

    differ : (i : ℕ) → IsClauseRef s.clauses i → literal_in (clause_at s i) 0 ≢ literal_in (clause_at s i) 1
    differ i a = distinct-places (clause_at s i) 0 (w.distinct (clause_at s i) (kept-here s i a)) 0 1 (omega arith) (let n = long i a in omega (arith, n))

    from-false : (i j : ℕ) (l : Literal) → IsClauseRef s.clauses i → j < 2 → LeavesOnly s.trail (clause_at s i) l →
        opposite (literal_in (clause_at s i) j) ∈ s.trail → l ∈ s.trail
    from-false i j l a b u h = let (m, n, t) = beside i j a b h in
        ⊎_elim (λ e. subst (λ x. x ∈ s.trail) e (on-trail s w m t)) (λ z. absurd (clash m t z)) (u m n)

    closes : (i : ℕ) → IsClauseRef s.clauses i → (l : Literal) → LeavesOnly s.trail (clause_at s i) l → l ∈ s.trail
    closes i a l u =
        ⊎_elim
        (λ e. ⊎_elim (λ f. absurd (differ i a (e ∙ sym f))) (from-false i 1 l a (omega arith) u)
        (u (literal_in (clause_at s i) 1) (first-in i 1 a (omega arith))))
        (from-false i 0 l a (omega arith) u)
        (u (literal_in (clause_at s i) 0) (first-in i 0 a (omega arith)))

-- what the next literal implies is true
pub implied-next : (s : View) (q : ℕ) (l : Literal) → WellFormed s → literal_at s q ≡ l → ((j : ℕ) → j < length s.decisions → decision_at s j ≤ q) →
    IsImpliedTo s q → ((m : Literal) → m ∈ implied_by s l → m ∈ s.trail) → IsImpliedTo s (suc q)
implied-next s q l w e d st new = λ m p h i.
    ⊎_elim
    (λ g. st m p g i)
    (λ g. let o : p ≡ q = omega (arith, h, g) in
    let (k, a, f) = place_in m s.trail 0 (new m (subst (λ x. m ∈ implied_by s x) (ap (λ y. literal_at s y) o ∙ e) i)) in
    (k, a, inl f, λ y z v. let u = d y z in absurd (omega (arith, v, u, o))))
    (cases_lt p q)

-- where all is propagated, no clause of two literals is false and none leaves a literal that isn't true
module _ (s : View) (w : WellFormed s) (st : IsImpliedTo s (length s.trail)) where
  goes-on : (l m : Literal) → m ∈ implied_by s l → l ∈ s.trail → m ∈ s.trail
  goes-on l m i h = let (p, a, e) = place_in l s.trail 0 h in
      let (k, b, f, o) = st m p a (subst (λ x. m ∈ implied_by s x) (sym e) i) in
      ⊎_elim (λ g. subst (λ x. x ∈ s.trail) g (∈-get_or s.trail k 0 b)) (λ g. absurd g) f

  no-clash : (m : Literal) → m ∈ s.trail → opposite m ∈ s.trail → ⊥
  no-clash m a b = made-clash s.values m (trail-true s w m a) (trail-true s w (opposite m) b)

  pair-true : (l m : Literal) → m ∈ implied_by s l → IsFalse s.trail (opposite l ∷ m ∷ []) → ⊥
  pair-true l m i f = no-clash m (goes-on l m i (subst (λ x. x ∈ s.trail) (opposite_twice l) (f (opposite l) (inl refl)))) (f m (inr (inl refl)))

  pair-closed : (l m x : Literal) → m ∈ implied_by s l → LeavesOnly s.trail (opposite l ∷ m ∷ []) x → x ∈ s.trail
  pair-closed l m x i u = ⊎_elim
      (λ e. ⊎_elim
      (λ f. absurd (w.binary_other l m i (f ∙ sym e)))
      (λ f. subst (λ y. y ∈ s.trail) e (goes-on (opposite m) (opposite l) (w.binary_back l m i) f))
      (u m (inr (inl refl))))
      (λ h. let g = goes-on l m i (subst (λ y. y ∈ s.trail) (opposite_twice l) h) in
      ⊎_elim (λ f. subst (λ y. y ∈ s.trail) f g) (λ f. absurd (no-clash m g f)) (u m (inr (inl refl))))
      (u (opposite l) (inl refl))

  pub pairs-complete : IsComplete (pairs_from 0 s.binary) s.trail
  pairs-complete = record {
    no_false = λ (c, h, f). let (l, m, i, e) = pair-in s.binary 0 c h in pair-true l m i (subst (IsFalse s.trail) e f);
    closed = λ c x h k u. let (l, m, i, e) = pair-in s.binary 0 c h in pair-closed l m x i (subst (λ d. LeavesOnly s.trail d x) e u);
  }

pub complete-both : (P Q : List Clause) (known : List Literal) → IsComplete P known → IsComplete Q known → IsComplete (P ++ Q) known
complete-both P Q known a b = record {
  no_false = λ (c, h, f). ⊎_elim (λ k. a.no_false (c, k, f)) (λ k. b.no_false (c, k, f)) (∈-append_cases c P Q h);
  closed = λ c l h k u. ⊎_elim (λ m. a.closed c l m k u) (λ m. b.closed c l m k u) (∈-append_cases c P Q h);
}

-- backtracking to a level: what is left of the trail, and to where the watches hold
module _ (s t : View) (level q : ℕ) (a : level < length s.decisions) (n : decision_at s level ≤ q) (m : decision_at s level ≤ length s.trail) where
  abbrev cut : View
  cut = record s { values = t.values; trail = take (decision_at s level) s.trail; queue_head = decision_at s level; decisions = take level s.decisions }

  -- what is true no later than at the level of a place before the cut is so afterwards
  covered-cut : (c : Clause) (p : ℕ) → p < decision_at s level → IsCovered s c p → IsCovered cut c p
  covered-cut c p b (k, x, y, z) =
      let k' : k < decision_at s level = z level a b in
      let o = length-take (decision_at s level) s.trail in (
        k,
        omega (arith, o, k', m),
        subst (λ v. v ∈ c) (sym (get_or-take (decision_at s level) s.trail k 0 k')) y,
        λ v g r. let l = length-take level s.decisions in
            let v' : v < level = omega (arith, g, l) in
            let w = get_or-take level s.decisions v 0 v' in
            let r' : p < decision_at s v = omega (arith, r, w) in
            let q' = z v (omega (arith, v', a)) r' in
            omega (arith, q', w),
      )

  back : WatchesHoldTo s q → WatchesHoldTo cut (decision_at s level)
  back st = λ i j p h b c f. covered-cut (clause_at s i) p c (st i j p h b (omega (arith, c, n)) (sym (get_or-take (decision_at s level) s.trail p 0 c) ∙ f))

  pub settled-back : t ≡ cut → WatchesHoldTo s q → WatchesHoldTo t (decision_at s level)
  settled-back e st = subst (λ x. WatchesHoldTo x (decision_at s level)) (sym e) (back st)

  implied-cut : IsImpliedTo s q → IsImpliedTo cut (decision_at s level)
  implied-cut st = λ v p c i. covered-cut (v ∷ []) p c
      (st v p (omega (arith, c, n)) (subst (λ l. v ∈ implied_by s l) (get_or-take (decision_at s level) s.trail p 0 c) i))

  pub implied-back : t ≡ cut → IsImpliedTo s q → IsImpliedTo t (decision_at s level)
  implied-back e st = subst (λ x. IsImpliedTo x (decision_at s level)) (sym e) (implied-cut st)
