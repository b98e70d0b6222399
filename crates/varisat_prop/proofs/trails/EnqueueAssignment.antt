-- What enqueuing and deciding keep.
use Rattle.std.proofs.Common.{◌≡◌, ℕ, suc, ◌<◌, ◌≤◌, Some, None, List, [], ◌∷◌, ◌++◌, length, get_or, ◌⊎◌, inl, inr, ⊎_elim, refl, sym, ap, ◌∙◌, subst, arith, length-set, length-append}
use Rattle.std.proofs.lemmas.List.{get_or_append_left}
use Rattle.std.proofs.lemmas.Bool.{cases_lt}
use Rattle.varisat_theory.specs.promises.Membership.{◌∈◌}
use Rattle.varisat_theory.specs.promises.Literals.{Literal, Clause, variable_of, opposite, IsUnit}
use Rattle.varisat_theory.proofs.clauses.Members.{∈-append_left, ∈-append_right}
use Rattle.varisat_literals.specs.promises.Numbers.{polarity_of}
use Rattle.varisat_prop.specs.declared.prop.graph.Reason.{Reason}
use Rattle.varisat_prop.specs.declared.prop.graph.Reason.TheVariants as reason
use Rattle.varisat_clause.specs.Stored.{IsClauseRef}
use Rattle.varisat_prop.specs.View.{View, implied_by, IsTrueIn, clause_at, literal_at, decision_at, node_at, Implies, IsReason, WellFormed, IsFixed, ViewFits, GrowsTrail}
use Rattle.varisat_prop.specs.Changes.{enqueued, decided_on}
use Rattle.varisat_prop.proofs.trails.TrailExtend.{ext, ext-length, literal-old, literal-new, node-old, node-new, node-other, fresh, true-old, each-place, place-cases, Levels, ext-well, get_or-last}
use Rattle.varisat_clause.proofs.StoredClauses.{reordered-refl}

-- why a literal may be enqueued without a decision
abbrev pub MayImply : View → Literal → Reason → Type 0
MayImply s l reason.Unit = s.decisions ≡ []
MayImply s l (reason.Binary ms) = (m : Literal) × (ms ≡ m ∷ []) × (l ∈ implied_by s (opposite m)) × IsTrueIn s (opposite m)
MayImply s l (reason.Long i) = IsClauseRef s.clauses i × ((others : Clause) × (clause_at s i ≡ l ∷ others) × ((m : Literal) → m ∈ others → IsTrueIn s (opposite m)))

module _ (s : View) (l : Literal) (r : Reason) (w : WellFormed s) (inside : variable_of l < length s.values)
    (free : get_or s.values (variable_of l) None ≡ None) where
  abbrev t : View
  t = enqueued s l r

  same-levels : Levels s l r s.decisions w inside free
  same-levels = record {
    keeps = λ k h. h;
    decided = λ j h. let d = w.decided j h in let n = ext-length s l r s.decisions w inside free in
        (omega (arith, d.0, n), ap (λ n. n.reason) (node-old s l r s.decisions w inside free (decision_at s j) d.0) ∙ d.1);
    rising = w.rising;
    levels_to = each-place s l r s.decisions w inside free (λ k. (node_at t k).level ≤ length s.decisions)
        (λ k h. let e = ap (λ n. n.level) (node-old s l r s.decisions w inside free k h) in let f = w.levels_to k h in omega (arith, e, f))
        (let e = ap (λ n. n.level) (node-new s l r s.decisions w inside free) in omega (arith, e));
    levels_up = λ k j h i e. ⊎_elim
        (λ p. w.levels_up k j p i (let f = ap (λ n. n.level) (node-old s l r s.decisions w inside free k p) in omega (arith, e, f)))
        (λ p. let f = ap (λ n. n.level) (node-new s l r s.decisions w inside free) in let g = ap (λ x. (node_at t x).level) p in
        absurd (omega (arith, e, f, g, i)))
        (place-cases s l r s.decisions w inside free k h);
    levels_down = λ k j h i e. ⊎_elim
        (λ p. let f = ap (λ n. n.level) (node-old s l r s.decisions w inside free k p) in let g = w.levels_down k j p i e in omega (arith, f, g))
        (λ p. let d = w.decided j i in absurd (omega (arith, d.0, e, p)))
        (place-cases s l r s.decisions w inside free k h);
  }

  new-reason : (q : Reason) → MayImply s l q → (node_at t (length s.trail)).level ≡ length s.decisions → IsReason t (length s.trail) q
  new-reason reason.Unit e f = inr (f ∙ ap (λ (x : List ℕ). length x) e)
  new-reason (reason.Binary ms) (m, e, i, h) f = let (j, b, g) = w.stands (opposite m) h in (
    m,
    e,
    subst (λ x. x ∈ implied_by s (opposite m)) (sym (literal-new s l r s.decisions w inside free)) i,
    (j, b, literal-old s l r s.decisions w inside free j b ∙ g),
  )
  new-reason (reason.Long i) (a, (others, e, h)) f = (
    a,
    subst (λ c. Implies t c (length s.trail)) (sym e) (
      sym (literal-new s l r s.decisions w inside free),
      λ m k. let (j, b, g) = w.stands (opposite m) (h m k) in
          (j, b, literal-old s l r s.decisions w inside free j b ∙ g),
    ),
  )

  pub enqueued-well : MayImply s l r → WellFormed t
  enqueued-well m = ext-well s l r s.decisions w inside free same-levels (new-reason r m (ap (λ n. n.level) (node-new s l r s.decisions w inside free)))

-- whatever the decisions are
module _ (s : View) (l : Literal) (r : Reason) (ds : List ℕ) (w : WellFormed s) (inside : variable_of l < length s.values)
    (free : get_or s.values (variable_of l) None ≡ None) where
  abbrev e : View
  e = ext s l r ds w inside free

  fixed-old : (x : Literal) → IsFixed s x → IsFixed e x
  fixed-old x (t, z) =
      let (k, h, p) = w.stands x t in (
        true-old s l r ds w inside free x t,
        ap (λ n. n.level)
            (node-other s l r ds w inside free x (λ q. fresh s l r ds w inside free k h (ap variable_of p ∙ q))) ∙ z,
      )

  -- a unit that is enqueued is held
  pub ext-fits : (held : List Clause) → (r ≡ reason.Unit → ds ≡ [] → (d : Clause) × (d ∈ held) × IsUnit l d) → ViewFits held s → ViewFits held e
  ext-fits held u f = record {
    stored = f.stored;
    units = each-place s l r ds w inside free
        (λ k. (node_at e k).level ≡ 0 → (node_at e k).reason ≡ reason.Unit → (d : Clause) × (d ∈ held) × IsUnit (literal_at e k) d)
        (λ k h a b. let n = node-old s l r ds w inside free k h in subst (λ x. (d : Clause) × (d ∈ held) × IsUnit x d)
        (sym (literal-old s l r ds w inside free k h)) (f.units k h (sym (ap (λ n. n.level) n) ∙ a) (sym (ap (λ n. n.reason) n) ∙ b)))
        (λ a b. let n = node-new s l r ds w inside free in subst (λ x. (d : Clause) × (d ∈ held) × IsUnit x d)
        (sym (literal-new s l r ds w inside free)) (u (sym (ap (λ n. n.reason) n) ∙ b) (no-length ds (sym (ap (λ n. n.level) n) ∙ a))));
    covered = λ c h. ⊎_elim inl (λ p. inr (⊎_elim inl (λ (x, i, q). inr (x, i, fixed-old x q)) p)) (f.covered c h);
  }
    where
      no-length : (xs : List ℕ) → length xs ≡ 0 → xs ≡ []
      no-length [] h = refl
      no-length (x ∷ xs) h = absurd (omega (arith, h))

  pub ext-grows : (r ≡ reason.Unit → ds ≡ [] → ⊥) → (more : List ℕ) → ds ≡ s.decisions ++ more → GrowsTrail s e
  ext-grows n more f = record {
    clauses = reordered-refl s.clauses;
    binary = refl;
    count = length-set s.values (variable_of l) (Some (polarity_of l));
    trail_more = (l ∷ [], refl);
    head = omega arith;
    decisions_more = (more, f);
    nodes = node-old s l r ds w inside free;
    fits = λ held. ext-fits held (λ a b. absurd (n a b));
  }

-- a decision
module _ (s : View) (l : Literal) (w : WellFormed s) (inside : variable_of l < length s.values) (free : get_or s.values (variable_of l) None ≡ None) where
  abbrev ds : List ℕ
  ds = s.decisions ++ length s.trail ∷ []

  ds-length : length ds ≡ suc (length s.decisions)
  ds-length = let e = length-append s.decisions (length s.trail ∷ []) in omega (arith, e)

  ds-old : (j : ℕ) → j < length s.decisions → get_or ds j 0 ≡ decision_at s j
  ds-old j h = get_or_append_left s.decisions (length s.trail ∷ []) 0 j h

  ds-cases : (j : ℕ) → j < length ds → ((j < length s.decisions) × (get_or ds j 0 ≡ decision_at s j))
      ⊎ ((j ≡ length s.decisions) × (get_or ds j 0 ≡ length s.trail))
  ds-cases j h =
      let e = ds-length in
      ⊎_elim
      (λ p. inl (p, ds-old j p))
      (λ p. let q : j ≡ length s.decisions = omega (arith, e, h, p) in inr (q, ap (λ x. get_or ds x 0) q ∙ get_or-last s.decisions (length s.trail) 0))
      (cases_lt j (length s.decisions))

  level-old : (k : ℕ) → k < length s.trail → (node_at (decided_on s l) k).level ≡ (node_at s k).level
  level-old k h = ap (λ n. n.level) (node-old s l reason.Unit ds w inside free k h)

  level-new : (node_at (decided_on s l) (length s.trail)).level ≡ suc (length s.decisions)
  level-new = ap (λ n. n.level) (node-new s l reason.Unit ds w inside free) ∙ ds-length

  more-levels : Levels s l reason.Unit ds w inside free
  more-levels = record {
    keeps = λ k h. ∈-append_left k s.decisions (length s.trail ∷ []) h;
    decided = λ j h. let n = ext-length s l reason.Unit ds w inside free in ⊎_elim
        (λ (p, e). let d = w.decided j p in (
          omega (arith, e, d.0, n),
          ap (λ x. (node_at (decided_on s l) x).reason) e
              ∙ ap (λ n. n.reason) (node-old s l reason.Unit ds w inside free (decision_at s j) d.0) ∙ d.1,
        ))
        (λ (p, e). (omega (arith, e, n), ap (λ x. (node_at (decided_on s l) x).reason) e ∙ ap (λ n. n.reason) (node-new s l reason.Unit ds w inside free)))
        (ds-cases j h);
    rising = λ i j a h. ⊎_elim
        (λ (q, f). let e = ds-old i (omega (arith, a, q)) in let o = w.rising i j a q in omega (arith, e, f, o))
        (λ (q, f). let i' : i < length s.decisions = omega (arith, a, q) in let e = ds-old i i' in let d = w.decided i i' in omega (arith, e, f, d.0))
        (ds-cases j h);
    levels_to = λ k h. let n = ds-length in ⊎_elim
        (λ p. let e = level-old k p in let f = w.levels_to k p in omega (arith, e, f, n))
        (λ p. let e = level-new in let f = ap (λ x. (node_at (decided_on s l) x).level) p in omega (arith, e, f, n))
        (place-cases s l reason.Unit ds w inside free k h);
    levels_up = λ k j h i e. let n = ds-length in ⊎_elim
        (λ p. ⊎_elim
        (λ (q, f). let g = level-old k p in let o = w.levels_up k j p q (omega (arith, e, g)) in omega (arith, o, f))
        (λ (q, f). omega (arith, p, f))
        (ds-cases j i))
        (λ p. let f = level-new in let g = ap (λ x. (node_at (decided_on s l) x).level) p in absurd (omega (arith, e, f, g, i, n)))
        (place-cases s l reason.Unit ds w inside free k h);
    levels_down = λ k j h i e. ⊎_elim
        (λ p. let g = level-old k p in ⊎_elim
        (λ (q, f). let o = w.levels_down k j p q (omega (arith, e, f)) in omega (arith, o, g))
        (λ (q, f). let o = w.levels_to k p in omega (arith, o, g, q))
        (ds-cases j i))
        (λ p. ⊎_elim (λ (q, f). let d = w.decided j q in absurd (omega (arith, d.0, e, p, f))) (λ (q, f). absurd (omega (arith, e, p, f))) (ds-cases j i))
        (place-cases s l reason.Unit ds w inside free k h);
  }

  pub decided-well : WellFormed (decided_on s l)
  decided-well = ext-well s l reason.Unit ds w inside free more-levels (inl (∈-append_right (length s.trail) s.decisions (length s.trail ∷ []) (inl refl)))

  pub decided-grows : GrowsTrail s (decided_on s l)
  decided-grows = ext-grows s l reason.Unit ds w inside free
      (λ a b. let n = ds-length in let m = ap (λ (x : List ℕ). length x) b in absurd (omega (arith, n, m))) (length s.trail ∷ []) refl
