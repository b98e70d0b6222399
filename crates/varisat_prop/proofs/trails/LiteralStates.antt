-- The values that an assignment keeps of literals.
use Rattle.std.proofs.Common.{◌≡◌, ℕ, ◌+◌, ◌*◌, ◌-◌, ◌<◌, ◌≤◌, Bool, true, false, not, ◌↔◌, Option, Some, None, List, ◌++◌, ⊎_elim, length, get_or, set, replicate, take, refl, sym, ap, ◌∙◌, arith, length-set, length-append, get_or-set_same, get_or-set_other}
use Rattle.std.proofs.lemmas.List.{length-replicate, take_all, get_or_default}
use Rattle.std.specs.Bool.{beq, IsTrue}
use Rattle.std.specs.Option.{option_map}
use Rattle.varisat_theory.proofs.clauses.Padded.{padded}
use Rattle.varisat_theory.specs.promises.Literals.{Literal, variable_of, opposite}
use Rattle.varisat_theory.proofs.clauses.Members.{equal_or_not}
use Rattle.varisat_theory.proofs.clauses.Values.{parity, variable-opposite}
use Rattle.varisat_literals.specs.promises.Numbers.{polarity_of}
use Rattle.varisat_prop.proofs.trails.LiteralValues.{polarity-opposite}
use Rattle.varisat_prop.specs.Parts.{IsMadeTrue, value_in, literal_value, negated, AreValuesOf}
use Rattle.varisat_prop.specs.declared.prop.lit_value.LitValue.{LitValue}
use Rattle.varisat_prop.specs.declared.prop.lit_value.LitValue.TheVariants as lit_value

pub tells-more : (vs : List (Option Bool)) (fs : List LitValue) (m n : ℕ) → AreValuesOf vs fs →
    AreValuesOf (vs ++ replicate m None) (fs ++ replicate n lit_value.Unknown)
tells-more vs fs m n t l =
    padded lit_value.Unknown fs n l ∙ t l ∙ ap (λ (o : Option Bool). literal_value (option_map (λ b. beq b (polarity_of l)) o))
    (sym (padded None vs m (variable_of l)))

of-positive : (o : Option Bool) (p : Bool) → p ≡ true → literal_value o ≡ literal_value (option_map (λ b. beq b p) o)
of-positive None p e = refl
of-positive (Some true) true e = refl
of-positive (Some false) true e = refl
of-positive o false e = absurd cc

of-negative : (o : Option Bool) (p : Bool) → p ≡ false → negated (literal_value o) ≡ literal_value (option_map (λ b. beq b p) o)
of-negative None p e = refl
of-negative (Some true) false e = refl
of-negative (Some false) false e = refl
of-negative o true e = absurd cc

module _ (vs : List (Option Bool)) (fs : List LitValue) (v : ℕ) (o : Option Bool) (inside : v < length vs) (count : length fs ≡ 2 * length vs)
    (t : AreValuesOf vs fs) where
  abbrev one : List LitValue
  one = set fs (2 * v) (literal_value o)

  abbrev both : List LitValue
  both = set one (2 * v + 1) (negated (literal_value o))

  at-value : (l : Literal) → variable_of l ≡ v → get_or (set vs v o) (variable_of l) None ≡ o
  at-value l e = ap (λ k. get_or (set vs v o) k None) e ∙ get_or-set_same vs v o None inside

  at-positive : get_or both (2 * v) lit_value.Unknown ≡ literal_value o
  at-positive = get_or-set_other one (2 * v + 1) (2 * v) (negated (literal_value o)) lit_value.Unknown (λ e. omega (arith, e))
      ∙ get_or-set_same fs (2 * v) (literal_value o) lit_value.Unknown (omega (arith, inside, count))

  at-negative : get_or both (2 * v + 1) lit_value.Unknown ≡ negated (literal_value o)
  at-negative = let n = length-set fs (2 * v) (literal_value o) in
      get_or-set_same one (2 * v + 1) (negated (literal_value o)) lit_value.Unknown (omega (arith, inside, count, n))

  at-other : (l : Literal) → (variable_of l ≡ v → ⊥) → get_or both l lit_value.Unknown ≡ get_or fs l lit_value.Unknown
  at-other l n = get_or-set_other one (2 * v + 1) l (negated (literal_value o)) lit_value.Unknown (λ e. n (omega (arith, e)))
      ∙ get_or-set_other fs (2 * v) l (literal_value o) lit_value.Unknown (λ e. n (omega (arith, e)))

  -- the value of one variable is another
  pub tells-set : AreValuesOf (set vs v o) both
  tells-set l =
      ⊎_elim
      (λ e. rw (at-value l e) (⊎_elim
      (λ h. ap (λ k. get_or both k lit_value.Unknown) (omega (arith, e, h)) ∙ at-positive ∙ of-positive o (polarity_of l) (rw (h) refl))
      (λ h. ap (λ k. get_or both k lit_value.Unknown) (omega (arith, e, h)) ∙ at-negative ∙ of-negative o (polarity_of l) (rw (h) refl))
      (parity l)))
      (λ n. at-other l n ∙ t l ∙ ap (λ (x : Option Bool). literal_value (option_map (λ b. beq b (polarity_of l)) x))
      (sym (get_or-set_other vs v (variable_of l) o None n)))
      (equal_or_not (variable_of l) v)

-- what the parts of an assignment keep to each other, after the value of one variable was written
pub parts-set : (vs : List (Option Bool)) (last : List Bool) (fs : List LitValue) (v : ℕ) (o : Option Bool) (p n : ℕ) (a b : LitValue) →
    (length last ≡ length vs)
    × (length fs ≡ 2 * length vs) × AreValuesOf vs fs → v < length vs → p ≡ 2 * v → n ≡ 2 * v + 1 → a ≡ literal_value o →
    b ≡ negated (literal_value o) → (length last ≡ length (set vs v o)) × (length (set (set fs p a) n b) ≡ 2 * length (set vs v o))
    × AreValuesOf (set vs v o) (set (set fs p a) n b)
parts-set vs last fs v o p n a b (c, d, t) h i j e f =
    rw (i, j, e, f) (
      c ∙ sym (length-set vs v o),
      length-set (set fs (2 * v) (literal_value o)) (2 * v + 1) (negated (literal_value o))
          ∙ length-set fs (2 * v) (literal_value o) ∙ d ∙ ap (λ k. 2 * k) (sym (length-set vs v o)),
      tells-set vs fs v o h d t,
    )

-- and after there are more variables
pub parts-more : (vs ws : List (Option Bool)) (last after : List Bool) (fs gs : List LitValue) (count a b e : ℕ) → (length last ≡ length vs)
    × (length fs ≡ 2 * length vs) × AreValuesOf vs fs → length vs ≤ count → a ≡ length vs → b ≡ length last → e ≡ length fs →
    ws ≡ take count vs ++ replicate (count - a) None → after ≡ take count last ++ replicate (count - b) false →
    gs ≡ take (2 * count) fs ++ replicate (2 * count - e) lit_value.Unknown → (length after ≡ length ws) × (length gs ≡ 2 * length ws) × AreValuesOf ws gs
parts-more vs ws last after fs gs count a b e (c, d, t) h x y z f i j =
    let f' : ws ≡ vs ++ replicate (count - a) None = f ∙ ap (λ (x : List (Option Bool)). x ++ replicate (count - a) None) (take_all count vs h) in
    let i' : after ≡ last ++ replicate (count - b) false = i ∙ ap (λ (x : List Bool). x ++ replicate (count - b) false)
    (take_all count last (omega (arith, h, c))) in
    let j' : gs ≡ fs ++ replicate (2 * count - e) lit_value.Unknown = j ∙ ap (λ (x : List LitValue). x ++ replicate (2 * count - e) lit_value.Unknown)
    (take_all (2 * count) fs (omega (arith, h, d))) in
    let m = ap (λ (x : List (Option Bool)). length x) f' ∙ length-append vs (replicate (count - a) None) in
    let k = ap (λ (x : List Bool). length x) i' ∙ length-append last (replicate (count - b) false) in
    let n = ap (λ (x : List LitValue). length x) j' ∙ length-append fs (replicate (2 * count - e) lit_value.Unknown) in
    let p = length-replicate {A = Option Bool} (count - a) None in
    let r = length-replicate (count - b) false in
    let q = length-replicate (2 * count - e) lit_value.Unknown in (
      omega (arith, k, r, c, m, p, h, x, y),
      omega (arith, n, m, p, q, h, d, x, z),
      rw (f', j') (tells-more vs fs (count - a) (2 * count - e) t),
    )

-- what is read of the literals' values
pub value-read : (vs : List (Option Bool)) (fs : List LitValue) (l : Literal) (i : ℕ) (b : LitValue) → (length fs ≡ 2 * length vs) → AreValuesOf vs fs →
    variable_of l < length vs → i ≡ l → b ≡ get_or fs i b → b ≡ literal_value (value_in vs l)
value-read vs fs l i b d t h e f = f ∙ ap (λ k. get_or fs k b) e ∙ get_or_default fs l b lit_value.Unknown (omega (arith, h, d)) ∙ t l

-- a literal is listed as true just where its variable makes it so
pub true-told : (vs : List (Option Bool)) (l : Literal) (v : LitValue) (b : Bool) → v ≡ literal_value (value_in vs l) → IsTrue b ↔ (v ≡ lit_value.True) →
    IsTrue b ↔ IsMadeTrue vs l
true-told vs l v b e t = let (f, g) = go (get_or vs (variable_of l) None) (polarity_of l) in ((λ h. f (sym e ∙ t.0 h)), (λ h. t.1 (e ∙ g h)))
  where
    go : (o : Option Bool) (p : Bool) → (literal_value (option_map (λ x. beq x p) o) ≡ lit_value.True) ↔ (o ≡ Some p)
    go None p = ((λ e. absurd cc), (λ e. absurd cc))
    go (Some true) true = ((λ e. refl), (λ e. refl))
    go (Some true) false = ((λ e. absurd cc), (λ e. absurd cc))
    go (Some false) true = ((λ e. absurd cc), (λ e. absurd cc))
    go (Some false) false = ((λ e. refl), (λ e. refl))

-- and false where the opposite is
pub false-told : (vs : List (Option Bool)) (l : Literal) (v : LitValue) (b : Bool) → v ≡ literal_value (value_in vs l) → IsTrue b ↔ (v ≡ lit_value.False) →
    IsTrue b ↔ IsMadeTrue vs (opposite l)
false-told vs l v b e t = rw (variable-opposite l, polarity-opposite l)
    (let (f, g) = go (get_or vs (variable_of l) None) (polarity_of l) in ((λ h. f (sym e ∙ t.0 h)), (λ h. t.1 (e ∙ g h))))
  where
    go : (o : Option Bool) (p : Bool) → (literal_value (option_map (λ x. beq x p) o) ≡ lit_value.False) ↔ (o ≡ Some (not p))
    go None p = ((λ e. absurd cc), (λ e. absurd cc))
    go (Some true) true = ((λ e. absurd cc), (λ e. absurd cc))
    go (Some true) false = ((λ e. refl), (λ e. refl))
    go (Some false) true = ((λ e. refl), (λ e. refl))
    go (Some false) false = ((λ e. absurd cc), (λ e. absurd cc))

-- and neither where its variable has no value
pub unknown-told : (vs : List (Option Bool)) (l : Literal) (v : LitValue) (b : Bool) → v ≡ literal_value (value_in vs l) →
    IsTrue b ↔ (v ≡ lit_value.Unknown) → IsTrue b ↔ (get_or vs (variable_of l) None ≡ None)
unknown-told vs l v b e t = let (f, g) = go (get_or vs (variable_of l) None) (polarity_of l) in ((λ h. f (sym e ∙ t.0 h)), (λ h. t.1 (e ∙ g h)))
  where
    go : (o : Option Bool) (p : Bool) → (literal_value (option_map (λ x. beq x p) o) ≡ lit_value.Unknown) ↔ (o ≡ None)
    go None p = ((λ e. refl), (λ e. refl))
    go (Some true) true = ((λ e. absurd cc), (λ e. absurd cc))
    go (Some true) false = ((λ e. absurd cc), (λ e. absurd cc))
    go (Some false) true = ((λ e. absurd cc), (λ e. absurd cc))
    go (Some false) false = ((λ e. absurd cc), (λ e. absurd cc))
