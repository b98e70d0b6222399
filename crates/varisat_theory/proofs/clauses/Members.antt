-- Lists read as sets.
use Rattle.std.proofs.Common.{◌≡◌, ℕ, ◌<◌, List, [], ◌∷◌, ◌++◌, ◌⊎◌, inl, inr, ⊎_elim, refl, arith}
use Rattle.varisat_theory.specs.promises.Membership.{◌∈◌, ◌⊆◌, IsDistinct}

pub ∈-self : {X : Type 0} (x : X) (xs : List X) → x ∈ (x ∷ xs)
∈-self x xs = inl refl

pub ∈-append_left : {X : Type 0} (x : X) (xs ys : List X) → x ∈ xs → x ∈ (xs ++ ys)
∈-append_left x [] ys h = absurd h
∈-append_left x (y ∷ xs) ys (inl e) = inl e
∈-append_left x (y ∷ xs) ys (inr h) = inr (∈-append_left x xs ys h)

pub ∈-append_right : {X : Type 0} (x : X) (xs ys : List X) → x ∈ ys → x ∈ (xs ++ ys)
∈-append_right x [] ys h = h
∈-append_right x (y ∷ xs) ys h = inr (∈-append_right x xs ys h)

pub ∈-append_cases : {X : Type 0} (x : X) (xs ys : List X) → x ∈ (xs ++ ys) → (x ∈ xs) ⊎ (x ∈ ys)
∈-append_cases x [] ys h = inr h
∈-append_cases x (y ∷ xs) ys (inl e) = inl (inl e)
∈-append_cases x (y ∷ xs) ys (inr h) = ⊎_elim (λ k. inl (inr k)) inr (∈-append_cases x xs ys h)

-- two lists with no element in common, in neither of which one stands twice, make up such a list
pub distinct_append : {X : Type 0} (xs ys : List X) → IsDistinct xs → IsDistinct ys → ((x : X) → x ∈ xs → x ∈ ys → ⊥) → IsDistinct (xs ++ ys)
distinct_append [] ys d e n = e
distinct_append (x ∷ xs) ys (h, d) e n = (
  λ i. ⊎_elim h (n x (inl refl)) (∈-append_cases x xs ys i),
  distinct_append xs ys d e (λ y i j. n y (inr i) j),
)

pub ⊆-cons : {X : Type 0} (x : X) (xs ys : List X) → xs ⊆ ys → (x ∷ xs) ⊆ (x ∷ ys)
⊆-cons x xs ys s y (inl e) = inl e
⊆-cons x xs ys s y (inr h) = inr (s y h)

pub equal_or_not : (x y : ℕ) → (x ≡ y) ⊎ (x ≡ y → ⊥)
equal_or_not x y = ⊎_elim inl (λ h. inr (λ e. ⊎_elim (λ k. omega arith) (λ k. omega arith) h)) (cases x y)
  where
    cases : (x y : ℕ) → (x ≡ y) ⊎ ((x < y) ⊎ (y < x))
    cases x y = grind arith

pub ∈-or_not : (x : ℕ) (xs : List ℕ) → (x ∈ xs) ⊎ (x ∈ xs → ⊥)
∈-or_not x [] = inr (λ h. h)
∈-or_not x (y ∷ ys) =
    ⊎_elim
    (λ e. inl (inl e))
    (λ n. ⊎_elim (λ h. inl (inr h)) (λ m. inr (λ h. ⊎_elim n m h)) (∈-or_not x ys))
    (equal_or_not x y)
