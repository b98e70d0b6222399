use Rattle.std.proofs.Common.{◌≡◌, ℕ, ◌+◌, ◌-◌, ◌<◌, ◌≤◌, ◌⊎◌, Bool, List, length, get_or, set, Option, Some, None, inl, inr, ⊎_elim, refl, sym, ap, ◌∙◌, subst, arith, get_or-set_same, get_or-set_other, length-set}
use Rattle.std.specs.List.{swap_remove, slice_get}
use Rattle.std.proofs.lemmas.List.{get_or-take, length-take-le}
use Rattle.std.proofs.lemmas.Option.{slice_get_within, slice_get-get_or, get_or_from_slice_get}
use Rattle.std.proofs.lemmas.Bool.{cases_lt}
use Rattle.varisat_theory.specs.promises.Membership.{◌∈◌, ◌⊆◌}
use Rattle.varisat_theory.proofs.clauses.Members.{equal_or_not}
use Rattle.varisat_theory.proofs.clauses.Places.{∈-get_or, place_in, place_in_take}
use Rattle.varisat_prop.specs.Parts.{IsMadeTrue}
use Rattle.varisat_search.specs.AssumptionParts.{AssumptionParts, TakesOutTrue}
use Rattle.std.proofs.lemmas.Grind.{common_steps}
use Rattle.varisat_search.proofs.assumptions.next_assumption.Goals as goal

-- Assumptions that are taken out of the list, one after another.

-- The list without the element at the place, which the last one takes.
module _ (xs : List ℕ) (i : ℕ) (h : i < length xs) where
  abbrev last : ℕ
  last = get_or xs (length xs - 1) 0

  abbrev left : List ℕ
  left = swap_remove xs i 0

  left-length : length left + 1 ≡ length xs
  left-length =
      let n = length-set xs i last in
      let m = length-take-le (length xs - 1) (set xs i last) (omega (arith, n)) in
      omega (arith, m, h)

  left-same : (j : ℕ) → j < length xs - 1 → (j ≡ i → ⊥) → get_or left j 0 ≡ get_or xs j 0
  left-same j b n = get_or-take (length xs - 1) (set xs i last) j 0 b ∙ get_or-set_other xs i j last 0 n

  left-before : (j : ℕ) → j < i → get_or left j 0 ≡ get_or xs j 0
  left-before j b = left-same j (omega (arith, b, h)) (λ e. absurd (omega (arith, b, e)))

  left-part : left ⊆ xs
  left-part x m =
      let (j, a, b, e) = place_in_take x (set xs i last) (length xs - 1) 0 m in
      let n = length-set xs i last in
      ⊎_elim
      (λ q. subst (λ y. y ∈ xs) (sym (ap (λ k. get_or (set xs i last) k 0) q ∙ get_or-set_same xs i last 0 h) ∙ e)
      (∈-get_or xs (length xs - 1) 0 (omega (arith, h))))
      (λ q. subst (λ y. y ∈ xs) (sym (get_or-set_other xs i j last 0 q) ∙ e) (∈-get_or xs j 0 (omega (arith, b, n))))
      (equal_or_not j i)

  left-others : (x : ℕ) → x ∈ xs → (x ∈ left) ⊎ (x ≡ get_or xs i 0)
  left-others x m =
      let (j, a, e) = place_in x xs 0 m in
      let n = left-length in
      ⊎_elim
      (λ q. inr (sym e ∙ ap (λ k. get_or xs k 0) q))
      (λ q.
      ⊎_elim
      (λ (b : j < length xs - 1). inl (subst (λ y. y ∈ left) (left-same j b q ∙ e) (∈-get_or left j 0 (omega (arith, b, n)))))
      (λ (b : length xs - 1 ≤ j).
      let z : j ≡ length xs - 1 = omega (arith, a, b) in
      let c : i < length xs - 1 = order i (length xs) j h a z q in
      inl (subst (λ y. y ∈ left) (get_or-take (length xs - 1) (set xs i last) i 0 c ∙ get_or-set_same xs i last 0 h
      ∙ sym (ap (λ k. get_or xs k 0) z) ∙ e) (∈-get_or left i 0 (omega (arith, c, n)))))
      (cases_lt j (length xs - 1)))
      (equal_or_not j i)
    where
      order : (a n b : ℕ) → a < n → b < n → b ≡ n - 1 → (b ≡ a → ⊥) → a < n - 1
      order a n b p q e d = ⊎_elim (λ o. o) (λ o. absurd (d (omega (arith, o, p, e)))) (cases_lt a (n - 1))

takes-none : (values : List (Option Bool)) (level : ℕ) (x : AssumptionParts) → TakesOutTrue values level x x
takes-none values level x = record { rest = refl; part = λ l h. h; gone = λ l h. inl h; before = λ j h. refl; long = λ h. h; none = λ h. refl }

-- one more that is true
takes-one : (values : List (Option Bool)) (level : ℕ) (x y : AssumptionParts) → TakesOutTrue values level x y → level < length y.working →
    IsMadeTrue values (get_or y.working level 0) → TakesOutTrue values level x (record y { working = swap_remove y.working level 0 })
takes-one values level x y t h made =
    let n = left-length y.working level h in
    record {
      rest = ap (λ (z : AssumptionParts). record z { working = swap_remove y.working level 0 }) t.rest;
      part = λ l m. t.part l (left-part y.working level h l m);
      gone = λ l m. ⊎_elim
          (λ k. ⊎_elim inl (λ e. inr (subst (IsMadeTrue values) (sym e) made)) (left-others y.working level h l k))
          inr
          (t.gone l m);
      before = λ j b. left-before y.working level h j b ∙ t.before j b;
      long = λ b. omega (arith, h, n);
      none = λ b. let e = ap (λ (ws : List ℕ). length ws) (t.none b) in absurd (omega (arith, e, b, h));
    }

-- what the list gives at the level
read-next : (xs : List ℕ) (level l : ℕ) → slice_get xs level ≡ Some l → (level < length xs) × (l ≡ get_or xs level 0)
read-next xs level l e = (slice_get_within xs level l e, sym (get_or_from_slice_get xs level l 0 e))

read-none : (xs : List ℕ) (level : ℕ) → slice_get xs level ≡ None → length xs ≤ level
read-none xs level e = ⊎_elim (λ h. let f = slice_get-get_or xs level 0 h in absurd cc) (λ h. h) (cases_lt level (length xs))

pub lit_is_true-requires : goal.lit_is_true-requires
lit_is_true-requires g c =
    let x = c.implied.assumptions in
    let (h, e) = read-next x.working c.args.level c.in-Some.lit (sym c.assumption.ensures ∙ c.in-Some.is) in
    c.requires.in_range c.in-Some.lit
    (subst (λ l. l ∈ c.args.assumptions.now.working) (sym e)
    (c.implied.invariant.part (get_or x.working c.args.level 0) (∈-get_or x.working c.args.level 0 h)))

pub returns-then-not-lit_is_true-clause-next : goal.returns-then-not-lit_is_true-clause-next
returns-then-not-lit_is_true-clause-next g c =
    let (h, e) = read-next c.implied.assumptions.working c.args.level c.in-Some.lit (sym c.assumption.ensures ∙ c.in-Some.is) in
    (h, e, λ t. let f = c.if-not-lit_is_true.true in let b = c.lit_is_true.ensures.1 t in cc)

pub take_out-requires : goal.take_out-requires
take_out-requires g c = (read-next c.implied.assumptions.working c.args.level c.in-Some.lit (sym c.assumption.ensures ∙ c.in-Some.is)).0

pub implied-preserved : goal.implied-preserved
implied-preserved g c =
    let x = c.implied.assumptions in
    let values = c.args.assignment.now.current in
    let (h, e) = read-next x.working c.args.level c.in-Some.lit (sym c.assumption.ensures ∙ c.in-Some.is) in
    subst (TakesOutTrue values c.args.level c.args.assumptions.now) (sym c.take_out.ensures)
    (takes-one values c.args.level c.args.assumptions.now x c.implied.invariant h
    (subst (IsMadeTrue values) e (c.lit_is_true.ensures.0 c.if-not-lit_is_true.false)))

pub returns-clause-next : goal.returns-clause-next
returns-clause-next g c = read-none c.implied.assumptions.working c.args.level (sym c.assumption.ensures ∙ c.in_default.is)

pub implied-smaller : goal.implied-smaller
implied-smaller g c = grind (arith, common_steps)
