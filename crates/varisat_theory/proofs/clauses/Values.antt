-- Literals, their opposites and their values.
use Rattle.std.proofs.Common.{◌≡◌, ℕ, ◌/◌, ◌%◌, Bool, true, false, not, nat_eq, if◌then◌else◌, List, [], ◌∷◌, ◌⊎◌, inl, inr, ⊎_elim, sym, ap, ◌∙◌, subst, refl, arith}
use Rattle.varisat_theory.specs.promises.Membership.{◌∈◌, ◌⊆◌}
use Rattle.varisat_theory.specs.promises.Literals.{variable_of, literal_of, opposite, opposites, value}

pub opposite_twice : (l : ℕ) → opposite (opposite l) ≡ l
unfolding opposite
opposite_twice l = omega arith

pub variable-opposite : (l : ℕ) → variable_of (opposite l) ≡ variable_of l
unfolding opposite
variable-opposite l = omega arith

pub parity : (l : ℕ) → (l % 2 ≡ 0) ⊎ (l % 2 ≡ 1)
parity l = grind arith

-- literals of one variable are the same or opposite
pub same_or_opposite : (m l : ℕ) → m / 2 ≡ l / 2 → (m ≡ l) ⊎ (m ≡ opposite l)
unfolding opposite
same_or_opposite m l e =
    ⊎_elim
    (λ p. ⊎_elim (λ q. inl (omega (arith, p, q, e))) (λ q. inr (omega (arith, p, q, e))) (parity l))
    (λ p. ⊎_elim (λ q. inr (omega (arith, p, q, e))) (λ q. inl (omega (arith, p, q, e))) (parity l))
    (parity m)

pub variable-literal : (v : ℕ) (b : Bool) → variable_of (literal_of v b) ≡ v
variable-literal v true = omega arith
variable-literal v false = omega arith

-- a literal's value, by that of its variable
pub value_by : (a : ℕ → Bool) (l : ℕ) (b : Bool) → a (l / 2) ≡ b → value a l ≡ (if nat_eq (l % 2) 0 then b else not b)
unfolding value
value_by a l b e = ap (λ x. if nat_eq (l % 2) 0 then x else not x) e

-- so a literal is true whose sign the variable has as its value
pub either_true : (b : Bool) → (if b then b else not b) ≡ true
either_true true = refl
either_true false = refl

value_even : (a : ℕ → Bool) (l : ℕ) → l % 2 ≡ 0 → value a l ≡ a (l / 2)
unfolding value
value_even a l h = rw h refl

value_odd : (a : ℕ → Bool) (l : ℕ) → l % 2 ≡ 1 → value a l ≡ not (a (l / 2))
unfolding value
value_odd a l h = rw h refl

pub even_odd : (l : ℕ) → l % 2 ≡ 0 → opposite l % 2 ≡ 1
unfolding opposite
even_odd l h = omega arith

pub odd_even : (l : ℕ) → l % 2 ≡ 1 → opposite l % 2 ≡ 0
unfolding opposite
odd_even l h = omega arith

not_twice : (b : Bool) → not (not b) ≡ b
not_twice true = refl
not_twice false = refl

pub value-opposite : (a : ℕ → Bool) (l : ℕ) → value a (opposite l) ≡ not (value a l)
value-opposite a l =
    ⊎_elim
    (λ h. value_odd a (opposite l) (even_odd l h) ∙ ap (λ v. not (a v)) (variable-opposite l) ∙ ap not (sym (value_even a l h)))
    (λ h. value_even a (opposite l) (odd_even l h) ∙ ap a (variable-opposite l) ∙ sym (not_twice (a (l / 2))) ∙ ap not (sym (value_odd a l h)))
    (parity l)

-- not both a literal and its opposite are true
pub not_both : (a : ℕ → Bool) (l : ℕ) → value a l ≡ true → value a (opposite l) ≡ true → ⊥
not_both a l h k = let e = value-opposite a l in cc

-- two literals of one variable that are true are one
pub same_true : (a : ℕ → Bool) (m l : ℕ) → m / 2 ≡ l / 2 → value a m ≡ true → value a l ≡ true → m ≡ l
same_true a m l e s t = ⊎_elim (λ q. q) (λ q. absurd (not_both a l t (subst (λ x. value a x ≡ true) q s))) (same_or_opposite m l e)

pub true_or_opposite : (a : ℕ → Bool) (l : ℕ) → (value a l ≡ true) ⊎ (value a (opposite l) ≡ true)
true_or_opposite a l = go (value a l) refl
  where
    go : (b : Bool) → value a l ≡ b → (value a l ≡ true) ⊎ (value a (opposite l) ≡ true)
    go true e = inl e
    go false e = inr (value-opposite a l ∙ ap not e)

pub ∈-opposites : (l : ℕ) (ls : List ℕ) → l ∈ ls → opposite l ∈ opposites ls
∈-opposites l [] h = absurd h
∈-opposites l (m ∷ ls) (inl e) = inl (ap opposite e)
∈-opposites l (m ∷ ls) (inr h) = inr (∈-opposites l ls h)

-- what is among the opposites is one's opposite
pub opposites-∈ : (l : ℕ) (ls : List ℕ) → l ∈ opposites ls → opposite l ∈ ls
opposites-∈ l [] h = absurd h
opposites-∈ l (m ∷ ls) (inl e) = inl (ap opposite e ∙ opposite_twice m)
opposites-∈ l (m ∷ ls) (inr h) = inr (opposites-∈ l ls h)

pub opposites-⊆ : (c d : List ℕ) → c ⊆ d → opposites c ⊆ opposites d
opposites-⊆ c d s x h = subst (λ y. y ∈ opposites d) (opposite_twice x) (∈-opposites (opposite x) d (s (opposite x) (opposites-∈ x c h)))
