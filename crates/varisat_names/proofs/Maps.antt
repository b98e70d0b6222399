-- Maps that are changed at one place.
use Rattle.std.proofs.Common.{◌≡◌, ℕ, true, false, is_some, Option, Some, None, ◌⊎◌, inl, inr, ⊎_elim, if◌then◌else◌, sym, ap, ◌∙◌, subst, refl, eq-eqb, ne_eqb}
use Rattle.varisat_theory.proofs.clauses.Members.{equal_or_not}
use Rattle.varisat_names.specs.promises.Maps.{updated, IsInverse, onward, chain}

pub updated-at : {X : Type 0} (f : ℕ → X) (k : ℕ) (v : X) → updated f k v k ≡ v
updated-at f k v = ap (λ b. if b then v else f k) (eq-eqb k k refl)

pub updated-other : {X : Type 0} (f : ℕ → X) (k : ℕ) (v : X) (i : ℕ) → (i ≡ k → ⊥) → updated f k v i ≡ f i
updated-other f k v i n = ap (λ b. if b then v else f i) (ne_eqb i k n)

-- what holds of v at k, and of f elsewhere, holds of the changed function
pub updated-all : {X : Type 0} (P : ℕ → X → Type 0) (f : ℕ → X) (k : ℕ) (v : X) → P k v → (i : ℕ) → ((i ≡ k → ⊥) → P i (f i)) → P i (updated f k v i)
updated-all P f k v h i r =
    ⊎_elim
    (λ e. subst (λ j. P j (updated f k v j)) (sym e) (subst (P k) (sym (updated-at f k v)) h))
    (λ n. subst (P i) (sym (updated-other f k v i n)) (r n))
    (equal_or_not i k)

-- maps that agree with maps that are inverse
pub inverse-same : (f g f' g' : ℕ → Option ℕ) → ((x : ℕ) → f' x ≡ f x) → ((y : ℕ) → g' y ≡ g y) → IsInverse f g → IsInverse f' g'
inverse-same f g f' g' a b h = record { there = λ x y e. b y ∙ h.there x y (sym (a x) ∙ e); back = λ x y e. a x ∙ h.back x y (sym (b y) ∙ e) }

-- the two maps with one more pair
pub joined : (f g : ℕ → Option ℕ) (k j : ℕ) → IsInverse f g → f k ≡ None → g j ≡ None → IsInverse (updated f k (Some j)) (updated g j (Some k))
joined f g k j h a b = record {
  there = λ x y. updated-all (λ x o. o ≡ Some y → updated g j (Some k) y ≡ Some x) f k (Some j)
      (λ e. let e' : j ≡ y = cc in subst (λ z. updated g j (Some k) z ≡ Some k) e' (updated-at g j (Some k)))
      x
      (λ n e. updated-other g j (Some k) y (λ q. let z : None ≡ Some x = sym b ∙ ap g (sym q) ∙ h.there x y e in absurd cc) ∙ h.there x y e);
  back = λ x y. updated-all (λ y o. o ≡ Some x → updated f k (Some j) x ≡ Some y) g j (Some k)
      (λ e. let e' : k ≡ x = cc in subst (λ z. updated f k (Some j) z ≡ Some j) e' (updated-at f k (Some j)))
      y
      (λ n e. updated-other f k (Some j) x (λ q. let z : None ≡ Some y = sym a ∙ ap f (sym q) ∙ h.back x y e in absurd cc) ∙ h.back x y e);
}

-- the two maps with one pair less
pub parted : (f g : ℕ → Option ℕ) (k j : ℕ) → IsInverse f g → f k ≡ Some j → IsInverse (updated f k None) (updated g j None)
parted f g k j h a = record {
  there = λ x y. updated-all (λ x o. o ≡ Some y → updated g j None y ≡ Some x) f k None
      (λ e. absurd cc)
      x
      (λ n e. updated-other g j None y (λ q. let z : Some x ≡ Some k = sym (h.there x y e) ∙ ap g q ∙ h.there k j a in n cc) ∙ h.there x y e);
  back = λ x y. updated-all (λ y o. o ≡ Some x → updated f k None x ≡ Some y) g j None
      (λ e. absurd cc)
      y
      (λ n e. updated-other f k None x (λ q. let z : Some y ≡ Some j = sym (h.back x y e) ∙ ap f q ∙ a in n cc) ∙ h.back x y e);
}

-- a chain through a second map that is changed where the first never leads
pub chain-same : {X : Type 0} (f : ℕ → Option ℕ) (g h : ℕ → Option X) (x : ℕ) → ((y : ℕ) → f x ≡ Some y → g y ≡ h y) → chain f g x ≡ chain f h x
chain-same f g h x e = go (f x) e
  where
    go : (o : Option ℕ) → ((y : ℕ) → o ≡ Some y → g y ≡ h y) → onward o g ≡ onward o h
    go None k = refl
    go (Some y) k = k y refl

pub chain-some : {X : Type 0} (f : ℕ → Option ℕ) (g : ℕ → Option X) (x y : ℕ) → f x ≡ Some y → chain f g x ≡ g y
chain-some f g x y e = ap (λ o. onward o g) e

pub chain-none : {X : Type 0} (f : ℕ → Option ℕ) (g : ℕ → Option X) (x : ℕ) → f x ≡ None → chain f g x ≡ None
chain-none f g x e = ap (λ o. onward o g) e

-- where a chain leads it leads through something
pub chain-through : {X : Type 0} (f : ℕ → Option ℕ) (g : ℕ → Option X) (x : ℕ) (z : X) → chain f g x ≡ Some z → (y : ℕ) × (f x ≡ Some y) × (g y ≡ Some z)
chain-through f g x z e = go (f x) refl
  where
    go : (o : Option ℕ) → f x ≡ o → (y : ℕ) × (f x ≡ Some y) × (g y ≡ Some z)
    go None k = let q : None ≡ Some z = sym (chain-none f g x k) ∙ e in absurd cc
    go (Some y) k = (y, k, sym (chain-some f g x y k) ∙ e)

pub is-some : {X : Type 0} (o : Option X) → (o ≡ None) ⊎ ((y : X) × (o ≡ Some y))
is-some None = inl refl
is-some (Some y) = inr (y, refl)

pub some-of : {X : Type 0} (o : Option X) → is_some o ≡ true → (y : X) × (o ≡ Some y)
some-of None e = absurd cc
some-of (Some y) e = (y, refl)

pub is_none-none : {X : Type 0} (o : Option X) → is_some o ≡ false → o ≡ None
is_none-none None e = refl
is_none-none (Some y) e = absurd cc
