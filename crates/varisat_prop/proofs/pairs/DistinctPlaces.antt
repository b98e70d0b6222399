-- Lists without doubles, by places.
use Rattle.std.proofs.Common.{◌≡◌, ◌≢◌, ℕ, zero, suc, ◌<◌, ◌≤◌, List, [], ◌∷◌, ◌⊎◌, inl, inr, ⊎_elim, length, get_or, refl, sym, ap, subst, arith}
use Rattle.varisat_theory.specs.promises.Membership.{◌∈◌, IsDistinct}
use Rattle.varisat_theory.proofs.clauses.Places.{∈-get_or, place_in}
use Rattle.varisat_theory.proofs.bounds.Count.{length-distinct}

-- no two places hold the same
pub distinct-places : {X : Type 0} (xs : List X) (d : X) → IsDistinct xs → (i j : ℕ) → i < j → j < length xs → get_or xs i d ≢ get_or xs j d
distinct-places [] d h i j a b e = absurd (omega (arith, b))
distinct-places (x ∷ xs) d h zero zero a b e = absurd (omega (arith, a))
distinct-places (x ∷ xs) d h zero (suc j) a b e = h.0 (subst (λ y. y ∈ xs) (sym e) (∈-get_or xs j d (omega (arith, b))))
distinct-places (x ∷ xs) d h (suc i) zero a b e = absurd (omega (arith, a))
distinct-places (x ∷ xs) d h (suc i) (suc j) a b e = distinct-places xs d h.1 i j (omega (arith, a)) (omega (arith, b)) e

pub distinct-by-places : {X : Type 0} (xs : List X) (d : X) → ((i j : ℕ) → i < j → j < length xs → get_or xs i d ≢ get_or xs j d) → IsDistinct xs
distinct-by-places [] d h = tt
distinct-by-places (x ∷ xs) d h = (
  (λ k. let (j, a, e) = place_in x xs d k in h zero (suc j) (omega arith) (omega (arith, a)) (sym e)),
  distinct-by-places xs d
      (λ i j a b. h (suc i) (suc j) (omega (arith, a)) (omega (arith, b))),
)

-- the numbers below n
abbrev pub below : ℕ → List ℕ
below zero = []
below (suc n) = n ∷ below n

pub length-below : (n : ℕ) → length (below n) ≡ n
length-below zero = refl
length-below (suc n) = ap suc (length-below n)

pub in-below : (n x : ℕ) → x < n → x ∈ below n
in-below zero x h = absurd (omega arith)
in-below (suc n) x h = ⊎_elim (λ e. inl e) (λ k. inr (in-below n x k)) (split n x h)
  where
    split : (n x : ℕ) → x < suc n → (x ≡ n) ⊎ (x < n)
    split n x h = grind arith

-- different numbers below n are at most n
pub distinct-below : (xs : List ℕ) (n : ℕ) → IsDistinct xs → ((x : ℕ) → x ∈ xs → x < n) → length xs ≤ n
distinct-below xs n d h = let a = length-distinct xs (below n) d (λ x i. in-below n x (h x i)) in let b = length-below n in omega (arith, a, b)
