-- Knuth's walk by its place and its power of 2.
use Rattle.std.proofs.Common.{◌≡◌, ℕ, zero, suc, ◌+◌, ◌*◌, ◌/◌, ◌%◌, ◌^◌, ◌<◌, ◌≤◌, inl, inr, ◌⊎◌, ⊎_elim, subst, refl, sym, ap, ◌∙◌, arith, pow-suc, pow_pos}
use Rattle.std.proofs.lemmas.Bool.{cases_lt}
use Rattle.std.proofs.lemmas.Nat.{div-mul-add}
use Rattle.varisat_theory.specs.inside.Luby.{luby, Walk, next_walk, walk_at}
use Rattle.varisat_theory.proofs.bounds.LubyWalk.{next_odd, next_even, walk-luby}
use Rattle.varisat_schedule.specs.Walks.{IsWalkAfter}

-- the place is a multiple of the power, and no greater than the number of the next term
record IsMultiple (w : Walk) (given : ℕ) : Type 0 where
  times : ℕ
  is : w.place ≡ times * 2 ^ w.exponent
  positive : 0 < times
  low : w.place ≤ suc given

abbrev MovesOn : Walk → Type 0
MovesOn w = next_walk w ≡ record { place = suc w.place; exponent = 0 }

abbrev Doubles : Walk → Type 0
Doubles w = next_walk w ≡ record { place = w.place; exponent = suc w.exponent }

abbrev at : ℕ → ℕ → Walk
at place exponent = record { place = place; exponent = exponent }

odd-moves : (w : Walk) (h : ℕ) → w.place ≡ (2 * h + 1) * 2 ^ w.exponent → MovesOn w
odd-moves w h e = ap (λ u. next_walk (at u w.exponent)) e ∙ next_odd h w.exponent ∙ ap (λ u. at (suc u) 0) (sym e)

even-doubles : (w : Walk) (h : ℕ) → w.place ≡ (2 * h + 2) * 2 ^ w.exponent → Doubles w
even-doubles w h e = ap (λ u. next_walk (at u w.exponent)) e ∙ next_even h w.exponent ∙ ap (λ u. at u (suc w.exponent)) (sym e)

-- a positive number is odd or even
parity : (q : ℕ) → 0 < q → ((h : ℕ) × (q ≡ 2 * h + 1)) ⊎ ((h : ℕ) × (q ≡ 2 * h + 2))
parity zero p = absurd (omega (arith, p))
parity (suc q) p =
    ⊎_elim
    (λ (l : q % 2 < 1). inl (q / 2, omega (arith, l)))
    (λ (l : 1 ≤ q % 2). inr (q / 2, omega (arith, l)))
    (cases_lt (q % 2) 1)

multiple-odd : (w : Walk) (given : ℕ) → IsMultiple w given → IsMultiple (at (suc w.place) 0) (suc given)
multiple-odd w given s = record {
  times = suc w.place;
  is = omega arith;
  positive = omega arith;
  low = let l = s.low in omega (arith, l);
}

multiple-even : (w : Walk) (given h : ℕ) → w.place ≡ (2 * h + 2) * 2 ^ w.exponent → IsMultiple w given → IsMultiple (at w.place (suc w.exponent)) (suc given)
multiple-even w given h e s = record {
  times = suc h;
  is = let p = ap (λ x. suc h * x) (pow-suc 2 w.exponent) in omega (arith, p, e);
  positive = omega arith;
  low = let l = s.low in omega (arith, l);
}

multiple : (i : ℕ) → IsMultiple (walk_at i) i
multiple zero = record { times = 1; is = refl; positive = omega arith; low = omega arith }
multiple (suc i) =
    let s = multiple i in
    let w = walk_at i in
    ⊎_elim
    (λ (h, e). subst (λ x. IsMultiple x (suc i)) (sym (odd-moves w h (s.is ∙ ap (λ x. x * 2 ^ w.exponent) e))) (multiple-odd w i s))
    (λ (h, e). let a = s.is ∙ ap (λ x. x * 2 ^ w.exponent) e in subst (λ x. IsMultiple x (suc i)) (sym (even-doubles w h a)) (multiple-even w i h a s))
    (parity s.times s.positive)

-- what the walk's numbers are after so many terms
module _ (given place power : ℕ) (w : IsWalkAfter given place power) where
  abbrev here : Walk
  here = walk_at given

  quotient : place / power ≡ (multiple given).times
  quotient =
      let s = multiple given in
      let p = pow_pos here.exponent in
      let a : here.place ≡ s.times * 2 ^ here.exponent + 0 = let i = s.is in omega (arith, i) in
      ap (λ x. x / power) w.place_is ∙ ap (λ x. here.place / x) w.power_is ∙ ap (λ x. x / 2 ^ here.exponent) a ∙ div-mul-add s.times (2 ^ here.exponent) 0 p

  pub walk-low : place ≤ suc given
  walk-low = let a = (multiple given).low in let b = w.place_is in omega (arith, a, b)

  pub walk-term : power ≡ luby (suc given)
  walk-term = w.power_is ∙ walk-luby given

  one_more : given + 1 ≡ suc given
  one_more = omega arith

  odd-here : place / power % 2 ≡ 1 → MovesOn here
  odd-here o =
      let s = multiple given in
      let q = ap (λ x. x % 2) quotient in
      ⊎_elim
      (λ (h, e). odd-moves here h (s.is ∙ ap (λ x. x * 2 ^ here.exponent) e))
      (λ (h, e). absurd (omega (arith, o, q, e)))
      (parity s.times s.positive)

  even-here : (place / power % 2 ≡ 1 → ⊥) → (h : ℕ) × (here.place ≡ (2 * h + 2) * 2 ^ here.exponent)
  even-here o =
      let s = multiple given in
      let q = ap (λ x. x % 2) quotient in
      ⊎_elim
      (λ (h, e). absurd (o (omega (arith, q, e))))
      (λ (h, e). (h, s.is ∙ ap (λ x. x * 2 ^ here.exponent) e))
      (parity s.times s.positive)

  pub walk-odd : place / power % 2 ≡ 1 → IsWalkAfter (given + 1) (place + 1) 1
  walk-odd o =
      let n = ap walk_at one_more ∙ odd-here o in
      record {
        place_is = let a = ap (λ (x : Walk). x.place) n in let b = w.place_is in omega (arith, a, b);
        power_is = sym (ap (λ (x : Walk). 2 ^ x.exponent) n);
      }

  pub walk-even : (place / power % 2 ≡ 1 → ⊥) → IsWalkAfter (given + 1) place (power * 2)
  walk-even o =
      let (h, e) = even-here o in
      let n = ap walk_at one_more ∙ even-doubles here h e in
      record {
        place_is = let a = ap (λ (x : Walk). x.place) n in let b = w.place_is in omega (arith, a, b);
        power_is = let a = ap (λ (x : Walk). 2 ^ x.exponent) n in let b = w.power_is in let c = pow-suc 2 here.exponent in omega (arith, a, b, c);
      }

  pub walk-room : (place / power % 2 ≡ 1 → ⊥) → power * 2 ≤ place
  walk-room o =
      let (h, e) = even-here o in
      let a = w.place_is in
      let b = w.power_is in
      let f : (2 * h + 2) * 2 ^ here.exponent ≡ 2 * 2 ^ here.exponent + h * (2 * 2 ^ here.exponent) = omega arith in
      omega (arith, a, b, e, f)
