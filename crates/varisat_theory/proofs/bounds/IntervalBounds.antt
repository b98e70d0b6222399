-- How many steps a call makes.
use Rattle.std.proofs.Common.{◌≡◌, ℕ, zero, suc, ◌+◌, ◌*◌, ◌^◌, ◌<◌, ◌≤◌, ◌⊎◌, inl, inr, ⊎_elim, ap, ◌∙◌, refl, arith, pow-suc, pow-add, mul-le-mul, mul-le-mul_left, mul-le-mul_right}
use Rattle.std.proofs.lemmas.Bool.{cases_lt}
use Rattle.varisat_theory.specs.inside.Luby.{luby, sum_from}
use Rattle.varisat_theory.proofs.bounds.Luby.{small_run, lt-pow}

-- the least k at which scale * 2^k reaches the bound
abbrev IsLeast : ℕ → ℕ → ℕ → Type 0
IsLeast scale bound k = (bound ≤ scale * 2 ^ k) × ((k ≡ 0) ⊎ (scale * 2 ^ k < 2 * bound))

least : (scale bound m : ℕ) → bound ≤ scale * 2 ^ m → (k : ℕ) × (k ≤ m) × IsLeast scale bound k
least scale bound zero h = (0, omega arith, (h, inl refl))
least scale bound (suc m) h =
    ⊎_elim
    (λ (a : scale * 2 ^ m < bound). let e = ap (λ x. scale * x) (pow-suc 2 m) in let l : scale * 2 ^ suc m < 2 * bound = omega (arith, e) in
    (suc m, omega arith, (h, inr l)))
    (λ (a : bound ≤ scale * 2 ^ m). let r = least scale bound m a in (r.0, omega (arith, r.1), r.2))
    (cases_lt (scale * 2 ^ m) bound)

below_cancel : (scale x y b : ℕ) → scale * x < b → b ≤ scale * y → x < y
below_cancel scale x y b h l =
    ⊎_elim (λ a. a) (λ (a : y ≤ x). let m = mul-le-mul_left scale a in absurd (omega arith)) (cases_lt x y)

sum_bound : (scale s k n b : ℕ) → s ≤ k * 2 ^ k → k ≤ n → (k ≡ 0) ⊎ (scale * 2 ^ k < 2 * b) → scale * s ≤ n * (2 * b)
sum_bound scale s k n b h l (inl e) =
    let z : s ≤ 0 = let a = ap (λ x. x * 2 ^ k) e in omega (arith, a) in
    let m = mul-le-mul_left scale z in
    omega (arith, m)
sum_bound scale s k n b h l (inr u) =
    let m = mul-le-mul_left scale h in
    let le : scale * 2 ^ k ≤ 2 * b = omega arith in
    let p = mul-le-mul l le in
    omega (arith, m, p)

-- Terms whose intervals are all shorter than 2^(n+1) have intervals of at most (n+1) * 2^(n+2) together.
pub restart_sum : (n scale j r : ℕ) → 0 < scale → ((t : ℕ) → t < r → scale * luby (suc j + t) < 2 ^ suc n) →
    scale * sum_from luby (suc j) r ≤ suc n * (2 * 2 ^ suc n)
restart_sum n scale j r h f =
    let one : 1 ≤ scale = h in
    let top = mul-le-mul_right (2 ^ suc n) one in
    let top' : 2 ^ suc n ≤ scale * 2 ^ suc n = omega (arith, top) in
    let w = least scale (2 ^ suc n) (suc n) top' in
    let k = w.0 in
    let fits = lt-pow (j + r) in
    let s = small_run k (j + r) j r fits (λ t u. below_cancel scale (luby (suc j + t)) (2 ^ k) (2 ^ suc n) (f t u) w.2.0) in
    sum_bound scale (sum_from luby (suc j) r) k (suc n) (2 ^ suc n) s w.1 w.2.1

small_power : (n : ℕ) → n + 2 ≤ 2 ^ suc n
small_power zero = omega arith
small_power (suc n) = let a = small_power n in let b = pow-suc 2 (suc n) in omega arith

pub total_bound : (n : ℕ) → (n + 2) * 2 ^ (n + 2) ≤ 2 ^ (2 * n + 3)
total_bound n =
    let a = mul-le-mul_right (2 ^ (n + 2)) (small_power n) in
    let b = pow-add 2 (suc n) (n + 2) in
    let e : suc n + (n + 2) ≡ 2 * n + 3 = omega arith in
    let c = ap (λ x. 2 ^ x) e in
    omega (arith, a, b, c)

-- A call's steps: those before its first restart, those of whole intervals, and those after its last restart.
pub intervals_bound : (n scale j r first last : ℕ) → 0 < scale → first < 2 ^ suc n → last ≤ 2 ^ suc n →
    ((t : ℕ) → t < r → scale * luby (suc j + t) < 2 ^ suc n) → first + scale * sum_from luby (suc j) r + last < (n + 2) * 2 ^ (n + 2)
intervals_bound n scale j r first last h a b f =
    let s = restart_sum n scale j r h f in
    let p : n + 2 ≡ suc (suc n) = omega arith in
    let q = ap (λ x. 2 ^ x) p ∙ pow-suc 2 (suc n) in
    let z = ap (λ x. (n + 2) * x) q in
    omega (arith, s, z)
