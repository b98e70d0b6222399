-- The Luby sequence: its two laws, and the sum of a run of small terms.
use Rattle.std.proofs.Common.{◌≡◌, ℕ, zero, suc, ◌+◌, ◌-◌, ◌*◌, ◌^◌, ◌<◌, ◌≤◌, ⊎_elim, sym, ap, ◌∙◌, refl, arith, zero-add, add-zero, pow-suc, pow_pos, pow_mono, mul-le-mul, lt-ltb, le-ltb, eq-eqb, ne_eqb}
use Rattle.std.proofs.lemmas.Bool.{cases_lt}
use Rattle.varisat_theory.specs.inside.Luby.{luby_below, luby, sum_from}

below_first : (k i : ℕ) → i < 2 ^ k → luby_below (suc k) i ≡ luby_below k i
below_first k i h =
    let q = pow-suc 2 k in
    let p = pow_pos k in
    ⊎_elim
    (λ (a : i < 2 ^ suc k - 1). let n : i ≡ 2 ^ suc k - 1 → ⊥ = λ e. omega arith in rw (ne_eqb i (2 ^ suc k - 1) n) (rw (lt-ltb i (2 ^ k) h) refl))
    (λ (a : 2 ^ suc k - 1 ≤ i). at_one k i h a)
    (cases_lt i (2 ^ suc k - 1))
  where
    at_one : (k i : ℕ) → i < 2 ^ k → 2 ^ suc k - 1 ≤ i → luby_below (suc k) i ≡ luby_below k i
    at_one k i h a = absurd (let q = pow-suc 2 k in let p = pow_pos k in omega arith)

below_last : (k : ℕ) → luby_below (suc k) (2 ^ suc k - 1) ≡ 2 ^ k
below_last k = rw (eq-eqb (2 ^ suc k - 1) (2 ^ suc k - 1) refl) refl

below_second : (k i : ℕ) → 2 ^ k ≤ i → i < 2 ^ suc k - 1 → luby_below (suc k) i ≡ luby_below k (i - 2 ^ k + 1)
below_second k i h l =
    let n : i ≡ 2 ^ suc k - 1 → ⊥ = λ e. omega arith in
    rw (ne_eqb i (2 ^ suc k - 1) n) (rw (le-ltb i (2 ^ k) h) refl)

pow_more : (k d : ℕ) → 2 ^ k ≤ 2 ^ (d + k)
pow_more k d = let h : k ≤ d + k = omega arith in pow_mono h

below_more_fuel : (d k i : ℕ) → i < 2 ^ k → luby_below (d + k) i ≡ luby_below k i
below_more_fuel zero k i h = let e : 0 + k ≡ k = omega arith in ap (λ m. luby_below m i) e
below_more_fuel (suc d) k i h =
    let e : suc d + k ≡ suc (d + k) = omega arith in
    let p = pow_more k d in
    let l : i < 2 ^ (d + k) = omega arith in
    ap (λ m. luby_below m i) e ∙ below_first (d + k) i l ∙ below_more_fuel d k i h

pub lt-pow : (i : ℕ) → i < 2 ^ i
lt-pow zero = omega arith
lt-pow (suc i) = let a = lt-pow i in let b = pow-suc 2 i in omega arith

luby-below : (k i : ℕ) → i < 2 ^ k → luby i ≡ luby_below k i
unfolding luby
luby-below k i h =
    let e : k + i ≡ i + k = omega arith in
    sym (below_more_fuel k i i (lt-pow i)) ∙ ap (λ m. luby_below m i) e ∙ below_more_fuel i k i h

-- term 2^k - 1
pub luby-last : (k : ℕ) → luby (2 ^ suc k - 1) ≡ 2 ^ k
luby-last k =
    let p = pow_pos (suc k) in
    let h : 2 ^ suc k - 1 < 2 ^ suc k = omega arith in
    luby-below (suc k) (2 ^ suc k - 1) h ∙ below_last k

-- the terms between
pub luby-second : (k i : ℕ) → 2 ^ k ≤ i → i < 2 ^ suc k - 1 → luby i ≡ luby (i - 2 ^ k + 1)
luby-second k i h l =
    let p = pow-suc 2 k in
    let a : i < 2 ^ suc k = omega arith in
    let b : i - 2 ^ k + 1 < 2 ^ k = omega arith in
    luby-below (suc k) i a ∙ below_second k i h l ∙ sym (luby-below k (i - 2 ^ k + 1) b)

pub sum_from-split : (f : ℕ → ℕ) (i r q : ℕ) → sum_from f i (r + q) ≡ sum_from f i r + sum_from f (i + r) q
sum_from-split f i zero q = let e : 0 + q ≡ q = omega arith in let e' : i ≡ i + 0 = omega arith in ap (sum_from f i) e ∙ ap (λ j. sum_from f j q) e'
    ∙ sym (zero-add _)
sum_from-split f i (suc r) q =
    let e : suc r + q ≡ suc (r + q) = omega arith in
    let e' : suc i + r ≡ i + suc r = omega arith in
    let ih = sum_from-split f (suc i) r q in
    let ih' = ap (λ j. sum_from f j q) e' in
    ap (sum_from f i) e ∙ omega arith

pub sum_from-same : (f : ℕ → ℕ) (i j r : ℕ) → ((t : ℕ) → t < r → f (i + t) ≡ f (j + t)) → sum_from f i r ≡ sum_from f j r
sum_from-same f i j zero h = refl
sum_from-same f i j (suc r) h =
    let a : f i ≡ f j = ap f (sym (add-zero i)) ∙ h 0 (omega arith) ∙ ap f (add-zero j) in
    let b = sum_from-same f (suc i) (suc j) r
    (λ t l. let x : suc i + t ≡ i + suc t = omega arith in let y : j + suc t ≡ suc j + t = omega arith in ap f x ∙ h (suc t) (omega arith) ∙ ap f y) in
    omega arith

sub_run : (f : ℕ → ℕ) (j r n : ℕ) → j + r ≤ n → sum_from f (suc j) r ≤ sum_from f 1 n
sub_run f j r n h =
    let q = n - (j + r) in
    let e : n ≡ j + (r + q) = omega arith in
    let a = ap (sum_from f 1) e in
    let b = sum_from-split f 1 j (r + q) in
    let s : 1 + j ≡ suc j = omega arith in
    let c = ap (λ x. sum_from f x (r + q)) s in
    let d = sum_from-split f (suc j) r q in
    omega (arith, a, b, c, d)

-- the second half of a block is the first
second_shift : (m i r : ℕ) → 2 ^ m ≤ i → i + r ≤ 2 ^ suc m - 1 → sum_from luby i r ≡ sum_from luby (i - 2 ^ m + 1) r
second_shift m i r h l =
    sum_from-same luby i (i - 2 ^ m + 1) r
    (λ t u. let a : 2 ^ m ≤ i + t = omega arith in let b : i + t < 2 ^ suc m - 1 = omega arith in
    let e : i + t - 2 ^ m + 1 ≡ i - 2 ^ m + 1 + t = omega arith in luby-second m (i + t) a b ∙ ap luby e)

two_blocks : (m : ℕ) → sum_from luby 1 ((2 ^ m - 1) + (2 ^ m - 1)) ≡ sum_from luby 1 (2 ^ m - 1) + sum_from luby 1 (2 ^ m - 1)
two_blocks m =
    let p = pow_pos m in
    let q = pow-suc 2 m in
    let a = sum_from-split luby 1 (2 ^ m - 1) (2 ^ m - 1) in
    let e : 1 + (2 ^ m - 1) ≡ 2 ^ m = omega arith in
    let b = ap (λ x. sum_from luby x (2 ^ m - 1)) e in
    let h : 2 ^ m ≤ 2 ^ m = omega arith in
    let l : 2 ^ m + (2 ^ m - 1) ≤ 2 ^ suc m - 1 = omega arith in
    let c = second_shift m (2 ^ m) (2 ^ m - 1) h l in
    let e' : 2 ^ m - 2 ^ m + 1 ≡ 1 = omega arith in
    let d = ap (λ x. sum_from luby x (2 ^ m - 1)) e' in
    a ∙ ap (λ x. sum_from luby 1 (2 ^ m - 1) + x) (b ∙ c ∙ d)

-- the first 2^m - 1 terms
pub block_sum : (m : ℕ) → 2 * sum_from luby 1 (2 ^ m - 1) ≡ m * 2 ^ m
block_sum zero = refl
block_sum (suc m) =
    let p = pow_pos m in
    let q = pow-suc 2 m in
    let e : 2 ^ suc m - 1 ≡ ((2 ^ m - 1) + (2 ^ m - 1)) + 1 = omega arith in
    let a = ap (sum_from luby 1) e in
    let b = sum_from-split luby 1 ((2 ^ m - 1) + (2 ^ m - 1)) 1 in
    let c = two_blocks m in
    let e' : 1 + ((2 ^ m - 1) + (2 ^ m - 1)) ≡ 2 ^ suc m - 1 = omega arith in
    let d = ap luby e' ∙ luby-last m in
    let ih = block_sum m in
    let w : sum_from luby (1 + ((2 ^ m - 1) + (2 ^ m - 1))) 1 ≡ 2 ^ m = add-zero _ ∙ d in
    let z = ap (λ x. suc m * x) q in
    omega (arith, a, b, c, ih, w, q, z)

-- a run that passes the last term of a block with a large last term
stops : (k m j r : ℕ) → k < m → ((t : ℕ) → t < r → luby (suc j + t) < 2 ^ k) → j < 2 ^ m - 1 → 2 ^ m - 1 ≤ j + r → ⊥
stops k zero j r h f l g = omega arith
stops k (suc p) j r h f l g =
    let t = 2 ^ suc p - 1 - suc j in
    let u : t < r = omega arith in
    let e : suc j + t ≡ 2 ^ suc p - 1 = omega arith in
    let a = f t u in
    let b = ap luby e ∙ luby-last p in
    let le : k ≤ p = omega arith in
    let c : 2 ^ k ≤ 2 ^ p = pow_mono le in
    omega (arith, a, b, c)

few : (k m j r : ℕ) → m ≤ k → j + r < 2 ^ m → sum_from luby (suc j) r ≤ k * 2 ^ k
few k m j r h l =
    let s : j + r ≤ 2 ^ m - 1 = omega arith in
    let a = sub_run luby j r (2 ^ m - 1) s in
    let b = block_sum m in
    let p : 2 ^ m ≤ 2 ^ k = pow_mono h in
    let c = mul-le-mul h p in
    omega (arith, a, b, c)

twice : (k m j r : ℕ) → m ≤ k → j + r ≤ 2 ^ suc m - 2 → sum_from luby (suc j) r ≤ k * 2 ^ k
twice k m j r h l =
    let q = pow-suc 2 m in
    let z = pow_pos m in
    let s : j + r ≤ (2 ^ m - 1) + (2 ^ m - 1) = omega arith in
    let a = sub_run luby j r ((2 ^ m - 1) + (2 ^ m - 1)) s in
    let d = two_blocks m in
    let b = block_sum m in
    let p : 2 ^ m ≤ 2 ^ k = pow_mono h in
    let c = mul-le-mul h p in
    omega (arith, a, b, c, d)

RunBound : ℕ → ℕ → Type 0
RunBound k m = (j r : ℕ) → j + r < 2 ^ m → ((t : ℕ) → t < r → luby (suc j + t) < 2 ^ k) → sum_from luby (suc j) r ≤ k * 2 ^ k

in_halves : (k m j r : ℕ) → RunBound k m → k < m → j + r < 2 ^ suc m - 1 → ((t : ℕ) → t < r → luby (suc j + t) < 2 ^ k) → sum_from luby (suc j) r ≤ k * 2 ^ k
unfolding RunBound
in_halves k m j r ih h l f =
    let q = pow-suc 2 m in
    let z = pow_pos m in
    ⊎_elim
    (λ (a : j < 2 ^ m - 1).
    ⊎_elim
    (λ (b : j + r < 2 ^ m - 1). let b' : j + r < 2 ^ m = omega arith in ih j r b' f)
    (λ (b : 2 ^ m - 1 ≤ j + r). absurd (stops k m j r h f a b))
    (cases_lt (j + r) (2 ^ m - 1)))
    (λ (a : 2 ^ m - 1 ≤ j).
    let i = j + 1 - 2 ^ m in
    let x : 2 ^ m ≤ suc j = omega arith in
    let y : suc j + r ≤ 2 ^ suc m - 1 = omega arith in
    let e : suc j - 2 ^ m + 1 ≡ suc i = omega arith in
    let s = second_shift m (suc j) r x y ∙ ap (λ w. sum_from luby w r) e in
    let g : i + r < 2 ^ m = omega arith in
    let b = ih i r g (λ t u. let c = f t u in let v : 2 ^ m ≤ suc j + t = omega arith in let w : suc j + t < 2 ^ suc m - 1 = omega arith in
    let d : suc j + t - 2 ^ m + 1 ≡ suc i + t = omega arith in let o = luby-second m (suc j + t) v w ∙ ap luby d in omega (arith, c, o)) in
    omega (arith, s, b))
    (cases_lt j (2 ^ m - 1))

-- Any run of terms that are all below 2^k sums to at most k * 2^k.
pub small_run : (k m j r : ℕ) → j + r < 2 ^ m → ((t : ℕ) → t < r → luby (suc j + t) < 2 ^ k) → sum_from luby (suc j) r ≤ k * 2 ^ k
unfolding RunBound
small_run k m j zero h f = omega arith
small_run k zero j (suc r) h f = absurd (omega arith)
small_run k (suc m) j (suc r) h f =
    let ih : RunBound k m = λ i q g e. small_run k m i q g e in
    ⊎_elim
    (λ (a : k < suc m).
    let l : j < 2 ^ suc m - 1 = omega arith in
    ⊎_elim
    (λ (b : j + suc r < 2 ^ suc m - 1).
    ⊎_elim
    (λ (c : k < m). in_halves k m j (suc r) ih c b f)
    (λ (c : m ≤ k). let d : j + suc r ≤ 2 ^ suc m - 2 = omega arith in twice k m j (suc r) c d)
    (cases_lt k m))
    (λ (b : 2 ^ suc m - 1 ≤ j + suc r). absurd (stops k (suc m) j (suc r) a f l b))
    (cases_lt (j + suc r) (2 ^ suc m - 1)))
    (λ (a : suc m ≤ k). few k (suc m) j (suc r) a h)
    (cases_lt k (suc m))

pub small_run_any : (k j r : ℕ) → ((t : ℕ) → t < r → luby (suc j + t) < 2 ^ k) → sum_from luby (suc j) r ≤ k * 2 ^ k
small_run_any k j r f = small_run k (j + r) j r (lt-pow (j + r)) f

-- the two rules determine all terms
module _ (f : ℕ → ℕ) (last : (k : ℕ) → f (2 ^ suc k - 1) ≡ 2 ^ k) (second : (k i : ℕ) → 2 ^ k ≤ i → i < 2 ^ suc k - 1 → f i ≡ f (i - 2 ^ k + 1)) where
  determined_below : (k i : ℕ) → 0 < i → i < 2 ^ k → f i ≡ luby i
  determined_below zero i h l = absurd (omega arith)
  determined_below (suc k) i h l =
      let q = pow-suc 2 k in
      let p = pow_pos k in
      ⊎_elim
      (λ (a : i < 2 ^ k). determined_below k i h a)
      (λ (a : 2 ^ k ≤ i).
      ⊎_elim
      (λ (b : i < 2 ^ suc k - 1). second k i a b ∙ determined_below k (i - 2 ^ k + 1) (omega arith) (omega arith) ∙ sym (luby-second k i a b))
      (λ (b : 2 ^ suc k - 1 ≤ i). let e : i ≡ 2 ^ suc k - 1 = omega arith in ap f e ∙ last k ∙ sym (luby-last k) ∙ ap luby (sym e))
      (cases_lt i (2 ^ suc k - 1)))
      (cases_lt i (2 ^ k))

  pub luby_determined : (i : ℕ) → f (suc i) ≡ luby (suc i)
  luby_determined i = determined_below (suc i) (suc i) (omega arith) (lt-pow (suc i))
