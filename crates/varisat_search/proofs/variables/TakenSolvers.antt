-- Solver variables in use, which stay as one more is taken, and how many there are.
use Rattle.std.proofs.Common.{◌≡◌, ℕ, zero, suc, ◌+◌, ◌<◌, ◌≤◌, Option, Some, None, List, [], ◌∷◌, ◌⊎◌, inl, inr, ⊎_elim, length, sym, ap, ◌∙◌, subst, refl, arith}
use Rattle.std.proofs.lemmas.Bool.{cases_lt}
use Rattle.varisat_theory.specs.promises.Membership.{◌∈◌, IsDistinct}
use Rattle.varisat_theory.proofs.clauses.Members.{equal_or_not}
use Rattle.varisat_theory.proofs.bounds.Count.{length-distinct}
use Rattle.varisat_names.specs.promises.VarMap.{at, IsFull}
use Rattle.varisat_names.specs.promises.Variables.{Tables, AreLinked, IsTaken}
use Rattle.varisat_names.proofs.Maps.{updated-at, updated-other, updated-all, is-some}
use Rattle.varisat_names.proofs.Tables.{live-inside}
use Rattle.varisat_prop.proofs.pairs.DistinctPlaces.{below, length-below, in-below}

-- 1. How many numbers a map leads somewhere.

-- the number, or 0
abbrev number_or_zero : Option ℕ → ℕ
number_or_zero None = 0
number_or_zero (Some x) = x

-- where the numbers below n lead
images : (ℕ → Option ℕ) → ℕ → List ℕ
images f zero = []
images f (suc n) = number_or_zero (f n) ∷ images f n

images-count : (f : ℕ → Option ℕ) (n : ℕ) → length (images f n) ≡ n
unfolding images
images-count f zero = refl
images-count f (suc n) = let e = images-count f n in omega (arith, e)

images-∈ : (f : ℕ → Option ℕ) (n i : ℕ) → i ∈ images f n → (x : ℕ) × (x < n) × (i ≡ number_or_zero (f x))
unfolding images
images-∈ f zero i h = absurd h
images-∈ f (suc n) i (inl e) = (n, omega arith, e)
images-∈ f (suc n) i (inr h) = let (x, b, e) = images-∈ f n i h in (x, omega (arith, b), e)

pub few : (f : ℕ → Option ℕ) (C : List ℕ) → ((x y i : ℕ) → f x ≡ Some i → f y ≡ Some i → y ≡ x) → (n : ℕ) →
    ((x : ℕ) → x < n → (i : ℕ) × (f x ≡ Some i) × (i ∈ C)) → n ≤ length C
unfolding images
few f C one n h =
    let d = length-distinct (images f n) C (distinct n h)
    (λ i m. let (x, b, e) = images-∈ f n i m in let (j, q, c) = h x b in subst (λ z. z ∈ C) (sym (e ∙ ap number_or_zero q)) c) in
    let e = images-count f n in
    omega (arith, d, e)
  where
    step : (n i : ℕ) → f n ≡ Some i → ((x : ℕ) → x < suc n → (i : ℕ) × (f x ≡ Some i) × (i ∈ C)) → i ∈ images f n → ⊥
    step n i q h m =
        let (x, b, e) = images-∈ f n i m in
        let (j, r, c) = h x (omega (arith, b)) in
        let z : i ≡ j = e ∙ ap number_or_zero r in
        let same = one n x i q (r ∙ ap Some (sym z)) in
        absurd (omega (arith, b, same))

    distinct : (n : ℕ) → ((x : ℕ) → x < n → (i : ℕ) × (f x ≡ Some i) × (i ∈ C)) → IsDistinct (images f n)
    distinct zero h = tt
    distinct (suc n) h =
        let (i, q, c) = h n (omega arith) in
        (λ m. step n i q h (subst (λ z. z ∈ images f n) (ap number_or_zero q) m), distinct n (λ x b. h x (omega (arith, b))))

-- 2. A solver variable is taken.

module _ (old new : Tables) (x v : ℕ) (t : IsTaken old new x v) where
  -- one in use stays that of its variable
  pub taken-stays : (w y : ℕ) → at old.solvers.backward w ≡ Some y → at new.solvers.backward w ≡ Some y
  taken-stays w y h =
      t.solvers.backward.at_each w ∙ updated-other (at old.solvers.backward) v (Some x) w
      (λ q. let z : None ≡ Some y = sym t.least.0 ∙ ap (at old.solvers.backward) (sym q) ∙ h in cc) ∙ h

  pub taken-there : at new.solvers.backward v ≡ Some x
  taken-there = t.solvers.backward.at_each v ∙ updated-at (at old.solvers.backward) v (Some x)

  pub taken-here : at new.solvers.forward x ≡ Some v
  taken-here = t.solvers.forward.at_each x ∙ updated-at (at old.solvers.forward) x (Some v)

  -- and so does the one of another variable
  pub taken-other : at old.solvers.forward x ≡ None → (y w : ℕ) → at old.solvers.forward y ≡ Some w → at new.solvers.forward y ≡ Some w
  taken-other left y w h =
      t.solvers.forward.at_each y ∙ updated-other (at old.solvers.forward) x (Some v) y
      (λ q. let z : None ≡ Some w = sym left ∙ ap (at old.solvers.forward) (sym q) ∙ h in cc) ∙ h

  pub taken-grow : length old.solvers.backward ≤ length new.solvers.backward
  taken-grow = let b = t.solvers.backward.watermark in omega (arith, b)

  -- As the least free one is taken, the watermark stays, or each solver variable below it is in use.
  pub taken-full : (length new.solvers.backward ≡ length old.solvers.backward) ⊎ IsFull new.solvers.backward
  taken-full =
      ⊎_elim
      (λ below. inl (let b = t.solvers.backward.watermark in omega (arith, b, below)))
      (λ past. inr (λ u h n. let b = t.solvers.backward.watermark in up-to u (omega (arith, h, b, past)) n))
      (cases_lt v (length old.solvers.backward))
    where
      up-to : (u : ℕ) → u < v + 1 → at new.solvers.backward u ≡ None → ⊥
      up-to u h n =
          let (y, e) = updated-all (λ u o. u < v + 1 → (y : ℕ) × (o ≡ Some y)) (at old.solvers.backward) v (Some x) (λ _. (x, refl)) u
          (λ m b. ⊎_elim (λ e. absurd (t.least.1 u (omega (arith, b, m)) e)) (λ r. r) (is-some (at old.solvers.backward u))) h in
          let z : None ≡ Some y = sym n ∙ t.solvers.backward.at_each u ∙ e in
          cc

-- where all solver variables below the watermark are in use, there are no more than global variables
pub solvers-within : (t : Tables) → AreLinked t → IsFull t.solvers.backward → length t.solvers.backward ≤ length t.kept
solvers-within t l n =
    let d = few (at t.solvers.backward) (below (length t.kept))
    (λ v u x a b. let q : Some u ≡ Some v = sym (l.solvers.back x u b) ∙ l.solvers.back x v a in cc) (length t.solvers.backward)
    (λ v h. ⊎_elim (λ e. absurd (n v h e)) (λ (x, e). (x, e, in-below (length t.kept) x (live-inside t.kept x (l.taken x v (l.solvers.back x v e)))))
    (is-some (at t.solvers.backward v))) in
    let e = length-below (length t.kept) in
    omega (arith, d, e)
