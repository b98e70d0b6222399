-- Literals, and the values of their variables.
use Rattle.std.proofs.Common.{◌≡◌, ℕ, zero, suc, ◌+◌, ◌*◌, ◌%◌, ◌<◌, Bool, true, false, not, Option, Some, None, List, [], ◌∷◌, ◌⊎◌, inl, inr, ⊎_elim, length, get_or, set, refl, sym, ap, ◌∙◌, arith, get_or-set_same, get_or-set_other, eq-eqb, ne_eqb}
use Rattle.varisat_theory.specs.promises.Literals.{Literal, variable_of, literal_of, opposite}
use Rattle.varisat_theory.proofs.clauses.Members.{equal_or_not}
use Rattle.varisat_theory.proofs.clauses.Values.{even_odd, odd_even, parity, same_or_opposite, variable-opposite}
use Rattle.varisat_literals.specs.promises.Numbers.{polarity_of}
use Rattle.varisat_prop.specs.Parts.{IsMadeTrue}

pub polarity-opposite : (l : Literal) → polarity_of (opposite l) ≡ not (polarity_of l)
polarity-opposite l =
    ⊎_elim
    (λ h. rw (even_odd l h, h) refl)
    (λ h. rw (odd_even l h, h) refl)
    (parity l)

pub polarity-literal : (v : ℕ) (b : Bool) → polarity_of (literal_of v b) ≡ b
polarity-literal v true = eq-eqb ((2 * v) % 2) 0 (omega arith)
polarity-literal v false = ne_eqb ((2 * v + 1) % 2) 0 (λ e. absurd (omega (arith, e)))

-- a variable and a polarity give the literal
pub same-literal : (l m : Literal) → variable_of l ≡ variable_of m → polarity_of l ≡ polarity_of m → l ≡ m
same-literal l m e f = ⊎_elim (λ g. g) (λ g. absurd (differ (polarity_of m) (sym f ∙ ap polarity_of g ∙ polarity-opposite m))) (same_or_opposite l m e)
  where
    differ : (b : Bool) → b ≡ not b → ⊥
    differ true e = cc
    differ false e = cc

-- a literal that is true has a variable with a value
pub made-inside : (vs : List (Option Bool)) (l : Literal) → IsMadeTrue vs l → variable_of l < length vs
made-inside vs l h = inside vs (variable_of l) (polarity_of l) h
  where
    inside : (vs : List (Option Bool)) (v : ℕ) (b : Bool) → get_or vs v None ≡ Some b → v < length vs
    inside [] v b h = absurd cc
    inside (x ∷ vs) zero b h = omega arith
    inside (x ∷ vs) (suc v) b h = let i = inside vs v b h in omega (arith, i)

pub made-clash : (vs : List (Option Bool)) (l : Literal) → IsMadeTrue vs l → IsMadeTrue vs (opposite l) → ⊥
made-clash vs l h k = differ (polarity_of l) (sym h ∙ ap (λ v. get_or vs v None) (sym (variable-opposite l)) ∙ k ∙ ap Some (polarity-opposite l))
  where
    differ : (b : Bool) → Some b ≡ Some (not b) → ⊥
    differ true e = cc
    differ false e = cc

-- a variable has no value where neither literal is true, and has one else
pub made-none : (vs : List (Option Bool)) (l : Literal) → (IsMadeTrue vs l → ⊥) → (IsMadeTrue vs (opposite l) → ⊥) → get_or vs (variable_of l) None ≡ None
made-none vs l a b = go (get_or vs (variable_of l) None) (polarity_of l) a
    (λ e. b (ap (λ v. get_or vs v None) (variable-opposite l) ∙ e ∙ ap Some (sym (polarity-opposite l))))
  where
    go : (o : Option Bool) (p : Bool) → (o ≡ Some p → ⊥) → (o ≡ Some (not p) → ⊥) → o ≡ None
    go None p a b = refl
    go (Some true) true a b = absurd (a refl)
    go (Some true) false a b = absurd (b refl)
    go (Some false) true a b = absurd (b refl)
    go (Some false) false a b = absurd (a refl)

pub none-made : (vs : List (Option Bool)) (l m : Literal) → get_or vs (variable_of l) None ≡ None → variable_of m ≡ variable_of l → IsMadeTrue vs m → ⊥
none-made vs l m n e h = let f : get_or vs (variable_of m) None ≡ None = ap (λ v. get_or vs v None) e ∙ n in cc

-- one more literal is made true
module _ (vs : List (Option Bool)) (l : Literal) (inside : variable_of l < length vs) (free : get_or vs (variable_of l) None ≡ None) where
  abbrev now : List (Option Bool)
  now = set vs (variable_of l) (Some (polarity_of l))

  pub made-new : IsMadeTrue now l
  made-new = get_or-set_same vs (variable_of l) (Some (polarity_of l)) None inside

  pub made-old : (m : Literal) → IsMadeTrue vs m → IsMadeTrue now m
  made-old m h = get_or-set_other vs (variable_of l) (variable_of m) (Some (polarity_of l)) None (λ e. none-made vs l m free e h) ∙ h

  pub made-cases : (m : Literal) → IsMadeTrue now m → (m ≡ l) ⊎ IsMadeTrue vs m
  made-cases m h =
      ⊎_elim
      (λ e. inl (same-literal m l e (some-same (polarity_of m) (polarity_of l) (sym h ∙ ap (λ v. get_or now v None) e ∙ made-new))))
      (λ n. inr (sym (get_or-set_other vs (variable_of l) (variable_of m) (Some (polarity_of l)) None n) ∙ h))
      (equal_or_not (variable_of m) (variable_of l))
    where
      some-same : (a b : Bool) → Some a ≡ Some b → a ≡ b
      some-same a b e = cc
