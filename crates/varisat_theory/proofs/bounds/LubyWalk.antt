-- Knuth's walk gives the Luby terms.
use Rattle.std.proofs.Common.{◌≡◌, ℕ, zero, suc, ◌+◌, ◌-◌, ◌*◌, ◌^◌, ◌%◌, ◌<◌, ◌≤◌, ⊎_elim, sym, ap, ◌∙◌, refl, arith, pow-suc, pow_pos, eq-eqb, ne_eqb}
use Rattle.std.proofs.lemmas.Bool.{cases_lt}
use Rattle.std.proofs.lemmas.Nat.{mod-mul-add}
use Rattle.std.proofs.Math.Nat.{mul-mod_left}
use Rattle.varisat_theory.specs.inside.Luby.{luby, Walk, next_walk, walk_at}
use Rattle.varisat_theory.proofs.bounds.Luby.{luby-last, luby-second, lt-pow}

abbrev at : ℕ → ℕ → Walk
at u e = record { place = u; exponent = e }

odd_place : (q p : ℕ) → 0 < p → ((2 * q + 1) * p) % (2 * p) ≡ p
odd_place q p h =
    let e : (2 * q + 1) * p ≡ q * (2 * p) + p = omega arith in
    let l : p < 2 * p = omega arith in
    ap (λ x. x % (2 * p)) e ∙ mod-mul-add q (2 * p) p l

even_place : (q p : ℕ) → 0 < p → ((2 * q + 2) * p) % (2 * p) ≡ 0
even_place q p h =
    let e : (2 * q + 2) * p ≡ (q + 1) * (2 * p) = omega arith in
    ap (λ x. x % (2 * p)) e ∙ mul-mod_left (q + 1) (2 * p)

pub next_odd : (q k : ℕ) → next_walk (at ((2 * q + 1) * 2 ^ k) k) ≡ at (suc ((2 * q + 1) * 2 ^ k)) 0
next_odd q k =
    let a = odd_place q (2 ^ k) (pow_pos k) in
    let b : 2 ^ suc k ≡ 2 * 2 ^ k = let c = pow-suc 2 k in omega arith in
    let d = ap (λ x. ((2 * q + 1) * 2 ^ k) % x) b ∙ a in
    rw (eq-eqb _ _ d) refl

pub next_even : (q k : ℕ) → next_walk (at ((2 * q + 2) * 2 ^ k) k) ≡ at ((2 * q + 2) * 2 ^ k) (suc k)
next_even q k =
    let a = even_place q (2 ^ k) (pow_pos k) in
    let b : 2 ^ suc k ≡ 2 * 2 ^ k = let c = pow-suc 2 k in omega arith in
    let d = ap (λ x. ((2 * q + 2) * 2 ^ k) % x) b ∙ a in
    let z = pow_pos k in
    let n : ((2 * q + 2) * 2 ^ k) % 2 ^ suc k ≡ 2 ^ k → ⊥ = λ f. omega (arith, d, f, z) in
    rw (ne_eqb _ _ n) refl

-- From place q * 2^k + 1 the walk gives the first 2^(k+1) - 1 terms, and then stands at the next multiple of 2^k.
record Gives (k q s : ℕ) : Type 0 where
  terms : (t : ℕ) → t + 2 ≤ 2 ^ suc k → 2 ^ (walk_at (s + t)).exponent ≡ luby (suc t)
  end : (t : ℕ) → t + 2 ≡ 2 ^ suc k → walk_at (s + t) ≡ at (suc q * 2 ^ k) k

power_at : (s i : ℕ) → s ≡ i → 2 ^ (walk_at s).exponent ≡ 2 ^ (walk_at i).exponent
power_at s i x = ap (λ y. 2 ^ (walk_at y).exponent) x

power_of : (v w : Walk) → v ≡ w → 2 ^ v.exponent ≡ 2 ^ w.exponent
power_of v w x = ap (λ (y : Walk). 2 ^ y.exponent) x

gives_none : (q s : ℕ) → walk_at s ≡ at (suc (q * 2 ^ 0)) 0 → Gives 0 q s
gives_none q s h = record {
  terms = λ t l.
      let z : t ≡ 0 = omega arith in
      let x : s + t ≡ s = omega arith in
      power_at (s + t) s x ∙ power_of (walk_at s) (at (suc (q * 2 ^ 0)) 0) h ∙ sym (luby-last 0) ∙ ap (λ y. luby (suc y)) (sym z);
  end = λ t l.
      let x : s + t ≡ s = omega arith in
      let y : suc (q * 2 ^ 0) ≡ suc q * 2 ^ 0 = omega arith in
      ap walk_at x ∙ h ∙ ap (λ u. at u 0) y;
}

-- two walks of half the length, with one step after each
gives_twice : (k q s : ℕ) → Gives k (2 * q) s → ((i : ℕ) → walk_at i ≡ at (suc ((2 * q + 1) * 2 ^ k)) 0 → Gives k (2 * q + 1) i) → Gives (suc k) q s
gives_twice k q s first again =
    let p = pow_pos k in
    let a = pow-suc 2 k in
    let b = pow-suc 2 (suc k) in
    let half = 2 ^ suc k - 2 in
    let half' : half + 2 ≡ 2 ^ suc k = omega arith in
    let i = suc (s + half) in
    let x : suc (2 * q) * 2 ^ k ≡ (2 * q + 1) * 2 ^ k = omega arith in
    let mid = ap next_walk (first.end half half' ∙ ap (λ u. at u k) x) ∙ next_odd q k in
    let second = again i mid in
    let y : suc (2 * q + 1) * 2 ^ k ≡ (2 * q + 2) * 2 ^ k = omega arith in
    let z : (2 * q + 2) * 2 ^ k ≡ suc q * 2 ^ suc k = let m = ap (λ n. suc q * n) a in omega (arith, m) in
    let last = ap next_walk (second.end half half' ∙ ap (λ u. at u k) y) ∙ next_even q k ∙ ap (λ u. at u (suc k)) z in
    record {
      terms = λ t l.
          ⊎_elim
          (λ (c : t + 2 < suc (2 ^ suc k)). first.terms t (omega arith))
          (λ (c : suc (2 ^ suc k) ≤ t + 2).
          ⊎_elim
          (λ (d : t + 2 < 2 ^ suc (suc k)).
          let t' = t - (2 ^ suc k - 1) in
          let e : s + t ≡ i + t' = omega arith in
          let f : t' + 2 ≤ 2 ^ suc k = omega arith in
          let g : 2 ^ suc k ≤ suc t = omega arith in
          let h : suc t < 2 ^ suc (suc k) - 1 = omega arith in
          let j : suc t - 2 ^ suc k + 1 ≡ suc t' = omega arith in
          power_at (s + t) (i + t') e ∙ second.terms t' f ∙ ap luby (sym j) ∙ sym (luby-second (suc k) (suc t) g h))
          (λ (d : 2 ^ suc (suc k) ≤ t + 2).
          let e : s + t ≡ suc (i + half) = omega arith in
          let f : suc t ≡ 2 ^ suc (suc k) - 1 = omega arith in
          power_at (s + t) (suc (i + half)) e ∙ power_of (walk_at (suc (i + half))) (at (suc q * 2 ^ suc k) (suc k)) last ∙ sym (luby-last (suc k))
          ∙ ap luby (sym f))
          (cases_lt (t + 2) (2 ^ suc (suc k))))
          (cases_lt (t + 2) (suc (2 ^ suc k)));
      end = λ t l. let e : s + t ≡ suc (i + half) = omega arith in ap walk_at e ∙ last;
    }

gives : (k q s : ℕ) → walk_at s ≡ at (suc (q * 2 ^ k)) 0 → Gives k q s
gives zero q s h = gives_none q s h
gives (suc k) q s h =
    let a = pow-suc 2 k in
    let e : suc (q * 2 ^ suc k) ≡ suc (2 * q * 2 ^ k) = let z = ap (λ x. q * x) a in omega (arith, z) in
    gives_twice k q s (gives k (2 * q) s (h ∙ ap (λ u. at u 0) e)) (λ i m. gives k (2 * q + 1) i m)

-- the walk gives the Luby terms
pub walk-luby : (i : ℕ) → 2 ^ (walk_at i).exponent ≡ luby (suc i)
walk-luby i =
    let a = lt-pow (suc i) in
    let b = pow-suc 2 (suc i) in
    let l : i + 2 ≤ 2 ^ suc (suc i) = omega arith in
    let z : 0 * 2 ^ suc i ≡ 0 = omega arith in
    let x : 0 + i ≡ i = omega arith in
    power_at i (0 + i) (sym x) ∙ (gives (suc i) 0 0 (ap (λ u. at (suc u) 0) (sym z))).terms i l
