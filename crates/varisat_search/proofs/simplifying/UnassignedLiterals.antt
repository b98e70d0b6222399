-- What is left of a clause without the literals that have a value.
use Rattle.std.proofs.Common.{◌≡◌, ◌≢◌, ℕ, ◌<◌, ◌≤◌, Bool, true, false, not, ◌||◌, cond, Option, Some, None, List, [], ◌∷◌, get_or, ◌⊎◌, inl, inr, ⊎_elim, refl, sym, ap, ◌∙◌, subst, arith}
use Rattle.std.specs.Prelude.{is_none, nat_le}
use Rattle.std.specs.Bool.{beq}
use Rattle.std.specs.Option.{option_map}
use Rattle.std.specs.List.{filter, list_any}
use Rattle.std.proofs.lemmas.Bool.{cases_Bool}
use Rattle.varisat_theory.specs.promises.Membership.{◌∈◌, ◌⊆◌, IsDistinct}
use Rattle.varisat_theory.specs.promises.Literals.{Literal, Clause, opposite, variable_of}
use Rattle.varisat_literals.specs.promises.Numbers.{polarity_of}
use Rattle.varisat_prop.specs.Parts.{IsMadeTrue, value_in, is_true_value}
use Rattle.varisat_theory.proofs.clauses.Values.{variable-opposite}
use Rattle.varisat_prop.proofs.trails.LiteralValues.{polarity-opposite}
use Rattle.varisat_search.specs.Simplifications.{has_true, unassigned}
use Rattle.varisat_prop.specs.Simplified.{is_unassigned, are_unassigned}
use Rattle.varisat_prop.proofs.pairs.SimplifiedPairs.{filter-∈, ∈-filter, all-unassigned, each-unassigned, none-unassigned}

-- 1. Tests over lists.

any-found : {X : Type 0} (p : X → Bool) (xs : List X) → list_any p xs ≡ true → (x : X) × (x ∈ xs) × (p x ≡ true)
any-found p [] e = absurd (let z : false ≡ true = e in cc)
any-found {X} p (y ∷ ys) e = go (p y) refl e (any-found p ys)
  where
    go : (b : Bool) → p y ≡ b → (b || list_any p ys) ≡ true → (list_any p ys ≡ true → (x : X) × (x ∈ ys) × (p x ≡ true)) → (x : X) × (x ∈ (y ∷ ys))
        × (p x ≡ true)
    go true q e f = (y, inl refl, q)
    go false q e f = let (x, i, r) = f e in (x, inr i, r)

any-none : {X : Type 0} (p : X → Bool) (xs : List X) → list_any p xs ≡ false → (x : X) → x ∈ xs → p x ≡ false
any-none p [] e x h = absurd h
any-none {X} p (y ∷ ys) e x h = go (p y) refl e h (any-none p ys)
  where
    go : (b : Bool) → p y ≡ b → (b || list_any p ys) ≡ false → x ∈ (y ∷ ys) → (list_any p ys ≡ false → (x : X) → x ∈ ys → p x ≡ false) → p x ≡ false
    go true q e h f = absurd (let z : true ≡ false = e in cc)
    go false q e (inl r) f = ap p r ∙ q
    go false q e (inr i) f = f e x i

filter-all : {X : Type 0} (p : X → Bool) (xs : List X) → ((x : X) → x ∈ xs → p x ≡ true) → filter p xs ≡ xs
filter-all p [] f = refl
filter-all p (x ∷ xs) f = ap (λ b. cond b (x ∷ filter p xs) (filter p xs)) (f x (inl refl)) ∙ ap (λ ys. x ∷ ys) (filter-all p xs (λ y i. f y (inr i)))

pub filter-distinct : (p : Literal → Bool) (xs : List Literal) → IsDistinct xs → IsDistinct (filter p xs)
filter-distinct p [] d = tt
filter-distinct p (x ∷ xs) d = go (p x) (filter-distinct p xs d.1)
  where
    go : (b : Bool) → IsDistinct (filter p xs) → IsDistinct (cond b (x ∷ filter p xs) (filter p xs))
    go true r = ((λ i. d.0 (∈-filter p xs x i).0), r)
    go false r = r

-- 2. The values of literals.

module _ (values : List (Option Bool)) where
  made-true : (l : Literal) → is_true_value (value_in values l) ≡ true → IsMadeTrue values l
  made-true l e = go (get_or values (variable_of l) None) (polarity_of l) e
    where
      go : (o : Option Bool) (p : Bool) → is_true_value (option_map (λ b. beq b p) o) ≡ true → o ≡ Some p
      go None p e = absurd cc
      go (Some true) true e = refl
      go (Some true) false e = absurd cc
      go (Some false) true e = absurd cc
      go (Some false) false e = refl

  true-made : (l : Literal) → IsMadeTrue values l → is_true_value (value_in values l) ≡ true
  true-made l h = go (get_or values (variable_of l) None) (polarity_of l) h
    where
      go : (o : Option Bool) (p : Bool) → o ≡ Some p → is_true_value (option_map (λ b. beq b p) o) ≡ true
      go None p e = absurd cc
      go (Some true) true e = refl
      go (Some true) false e = absurd cc
      go (Some false) true e = absurd cc
      go (Some false) false e = refl

  -- a literal with a value is true or false
  assigned-cases : (l : Literal) → is_unassigned values l ≡ false → IsMadeTrue values l ⊎ IsMadeTrue values (opposite l)
  assigned-cases l e =
      ⊎_elim inl
      (λ f. inr (ap (λ v. get_or values v None) (variable-opposite l) ∙ f ∙ ap Some (sym (polarity-opposite l))))
      (go (get_or values (variable_of l) None) (polarity_of l) e)
    where
      go : (o : Option Bool) (p : Bool) → is_none o ≡ false → (o ≡ Some p) ⊎ (o ≡ Some (not p))
      go None p e = absurd cc
      go (Some true) true e = inl refl
      go (Some true) false e = inr refl
      go (Some false) true e = inr refl
      go (Some false) false e = inl refl

  -- 3. The literals of a clause.

  pub some-true : (c : Clause) → has_true values c ≡ true → (l : Literal) × (l ∈ c) × IsMadeTrue values l
  some-true c e = let (l, i, f) = any-found (λ l. is_true_value (value_in values l)) c e in (l, i, made-true l f)

  pub none-true : (c : Clause) → has_true values c ≡ false → (l : Literal) → l ∈ c → IsMadeTrue values l → ⊥
  none-true c e l i h = let f = any-none (λ l. is_true_value (value_in values l)) c e l i in let z : true ≡ false = sym (true-made l h) ∙ f in cc

  pub true-there : (c : Clause) (l : Literal) → l ∈ c → IsMadeTrue values l → has_true values c ≡ true
  true-there c l i h = ⊎_elim (λ e. e) (λ e. absurd (none-true c e l i h)) (cases_Bool (has_true values c))

  pub left-part : (c : Clause) → unassigned values c ⊆ c
  left-part c l i = (∈-filter (is_unassigned values) c l i).0

  pub left-unassigned : (c : Clause) (l : Literal) → l ∈ unassigned values c → is_unassigned values l ≡ true
  left-unassigned c l i = (∈-filter (is_unassigned values) c l i).1

  -- where none is true the others are false
  pub left-or_false : (c : Clause) → has_true values c ≡ false → (l : Literal) → l ∈ c → (l ∈ unassigned values c) ⊎ IsMadeTrue values (opposite l)
  left-or_false c e l i =
      ⊎_elim
      (λ n. inl (filter-∈ (is_unassigned values) c l i n))
      (λ a. ⊎_elim (λ h. absurd (none-true c e l i h)) inr (assigned-cases l a))
      (cases_Bool (is_unassigned values l))

  -- nothing goes where none has a value
  pub left-all : (c : Clause) → are_unassigned values c ≡ true → unassigned values c ≡ c
  left-all c e = filter-all (is_unassigned values) c (λ l i. all-unassigned values c e l i)

-- no literal of the clause, as it was read, has a value
pub unassigned-read : (values : List (Option Bool)) (lits c : Clause) → lits ≡ c →
    ((l : Literal) × (l ∈ lits) × (get_or values (variable_of l) None ≢ None) → ⊥) → are_unassigned values c ≡ true
unassigned-read values lits c is n = each-unassigned values c (λ l i. go l i (get_or values (variable_of l) None) refl)
  where
    go : (l : Literal) → l ∈ c → (o : Option Bool) → get_or values (variable_of l) None ≡ o → is_unassigned values l ≡ true
    go l i None e = none-unassigned values l e
    go l i (Some b) e = absurd (n (l, subst (λ x. l ∈ x) (sym is) i, λ z. (let y : Some b ≡ None = sym e ∙ z in cc)))

pub below : (n m : ℕ) → nat_le n m ≡ false → m < n
below n m e = grind (arith, e)
