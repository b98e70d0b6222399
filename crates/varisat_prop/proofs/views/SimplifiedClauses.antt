-- What complete propagation leaves of a clause: it is true, or two literals of it have no value.
use Rattle.std.proofs.Common.{◌≡◌, ◌≤◌, Bool, true, false, List, [], ◌∷◌, length, ◌⊎◌, inl, inr, ⊎_elim, refl, sym, subst, arith}
use Rattle.std.specs.List.{filter}
use Rattle.std.proofs.lemmas.Bool.{cases_Bool}
use Rattle.varisat_theory.specs.promises.Membership.{◌∈◌}
use Rattle.varisat_theory.specs.promises.Literals.{Literal, Clause, opposite}
use Rattle.varisat_theory.specs.promises.Propagation.{IsComplete}
use Rattle.varisat_theory.proofs.clauses.Members.{∈-append_right, ∈-or_not}
use Rattle.varisat_clause.specs.Stored.{literals_of}
use Rattle.varisat_prop.specs.View.{View, pairs_from, kept, WellFormed}
use Rattle.varisat_prop.specs.Simplified.{is_unassigned, are_unassigned}
use Rattle.varisat_prop.proofs.pairs.KeptPairs.{pair-in}
use Rattle.varisat_prop.proofs.trails.LiteralValues.{made-none}
use Rattle.varisat_prop.proofs.pairs.SimplifiedPairs.{filter-∈, ∈-filter, none-unassigned}
use Rattle.varisat_prop.proofs.trails.TrailValues.{on-trail}

module _ (s : View) (w : WellFormed s) where
  -- a literal with a value is true or false by the trail
  pub value-on-trail : (l : Literal) → is_unassigned s.values l ≡ false → (l ∈ s.trail) ⊎ (opposite l ∈ s.trail)
  value-on-trail l e = ⊎_elim inl
      (λ n. ⊎_elim inr (λ m. absurd (apart
      (none-unassigned s.values l (made-none s.values l (λ t. n (on-trail s w l t)) (λ t. m (on-trail s w (opposite l) t))))))
      (∈-or_not (opposite l) s.trail)) (∈-or_not l s.trail)
    where
      apart : is_unassigned s.values l ≡ true → ⊥
      apart f = cc

  -- each literal of a clause that isn't true has no value, or is false
  pub false-by-trail : (c : Clause) → ((l : Literal) → l ∈ c → l ∈ s.trail → ⊥) → (l : Literal) → l ∈ c → (is_unassigned s.values l ≡ true)
      ⊎ (opposite l ∈ s.trail)
  false-by-trail c n l h = ⊎_elim inl (λ e. ⊎_elim (λ t. absurd (n l h t)) inr (value-on-trail l e)) (cases_Bool (is_unassigned s.values l))

  module _ (done : IsComplete (kept s) s.trail) where
    pub leaves-two : (c : Clause) → c ∈ kept s → ((l : Literal) → l ∈ c → l ∈ s.trail → ⊥) → 2 ≤ length (filter (is_unassigned s.values) c)
    leaves-two c h n = go (filter (is_unassigned s.values) c) (λ l i e. filter-∈ (is_unassigned s.values) c l i e)
        (λ l i. (∈-filter (is_unassigned s.values) c l i).0)
      where
        go : (xs : List Literal) → ((l : Literal) → l ∈ c → is_unassigned s.values l ≡ true → l ∈ xs) → ((l : Literal) → l ∈ xs → l ∈ c) → 2 ≤ length xs
        go [] f g = absurd (done.no_false (c, h, λ l i. ⊎_elim (λ e. absurd (f l i e)) (λ o. o) (false-by-trail c n l i)))
        go (x ∷ []) f g = absurd (n x (g x (inl refl))
            (done.closed c x h (g x (inl refl)) (λ l i. ⊎_elim (λ e. inl (only x l (f l i e))) inr (false-by-trail c n l i))))
          where
            only : (x l : Literal) → l ∈ (x ∷ []) → l ≡ x
            only x l (inl e) = e
            only x l (inr z) = absurd z
        go (x ∷ y ∷ xs) f g = omega arith

    -- a clause of two literals one of which has a value is true
    pub pair-satisfied : (c : Clause) → c ∈ pairs_from 0 s.binary → are_unassigned s.values c ≡ false → (l : Literal) × (l ∈ c) × (l ∈ s.trail)
    pair-satisfied c h e =
        let (k, m, i, f) = pair-in s.binary 0 c h in
        let there : c ∈ kept s = ∈-append_right c (literals_of s.clauses) (pairs_from 0 s.binary) h in
        subst (λ d. (l : Literal) × (l ∈ d) × (l ∈ s.trail)) (sym f)
        (one (opposite k) m (subst (λ d. d ∈ kept s) f there) (subst (λ d. are_unassigned s.values d ≡ false) f e))
      where
        both : (a b : Bool) (x y : Literal) → is_unassigned s.values x ≡ a → is_unassigned s.values y ≡ b →
            are_unassigned s.values (x ∷ y ∷ []) ≡ false → 2 ≤ length (filter (is_unassigned s.values) (x ∷ y ∷ [])) → ⊥
        both true true x y p q e n = absurd (apart (rw (p, q) at e))
          where
            apart : true ≡ false → ⊥
            apart e = cc
        both true false x y p q e n = let l = rw (p, q) at n in omega (arith, l)
        both false true x y p q e n = let l = rw (p, q) at n in omega (arith, l)
        both false false x y p q e n = let l = rw (p, q) at n in omega (arith, l)

        one : (x y : Literal) → (x ∷ y ∷ []) ∈ kept s → are_unassigned s.values (x ∷ y ∷ []) ≡ false → (l : Literal) × (l ∈ (x ∷ y ∷ [])) × (l ∈ s.trail)
        one x y h e = ⊎_elim (λ t. (x, inl refl, t))
            (λ n. ⊎_elim (λ t. (y, inr (inl refl), t))
            (λ m. absurd (both (is_unassigned s.values x) (is_unassigned s.values y) x y refl refl e
            (leaves-two (x ∷ y ∷ []) h (neither x y n m)))) (∈-or_not y s.trail)) (∈-or_not x s.trail)
          where
            neither : (x y : Literal) → (x ∈ s.trail → ⊥) → (y ∈ s.trail → ⊥) → (l : Literal) → l ∈ (x ∷ y ∷ []) → l ∈ s.trail → ⊥
            neither x y n m l (inl e) t = n (subst (λ z. z ∈ s.trail) e t)
            neither x y n m l (inr (inl e)) t = m (subst (λ z. z ∈ s.trail) e t)
            neither x y n m l (inr (inr z)) t = absurd z
