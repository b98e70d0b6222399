-- Activities and the increment stay below the limit, and a shift keeps the order.
use Rattle.std.proofs.Common.{◌≡◌, ℕ, zero, suc, ◌+◌, ◌*◌, ◌/◌, ◌^◌, ◌<◌, ◌≤◌, List, [], ◌∷◌, ◌++◌, length, get_or, set, map, Bool, true, false, refl, sym, ap, ◌∙◌, inl, inr, arith}
use Rattle.std.proofs.Common.{get_or-set_same, get_or-set_other}
use Rattle.std.proofs.lemmas.Bool.Decides.{eqb_tells, nat_tests}
use Rattle.std.proofs.lemmas.List.{length-map}
use Rattle.std.proofs.Math.Bool.{or-false}
use Rattle.std.proofs.Math.Nat.{div-le_self}
use Rattle.std.proofs.Math.ListN.{get_or-map}
use Rattle.std.specs.Prelude.{nat_le, max}
use Rattle.varisat_vsids.specs.Heaps.{IsHeap, key}
use Rattle.varisat_vsids.specs.Activities.{AreWithinLimits, activity_limit, least_increment, reaches_limit, shifted, shifted_increment, rescaled, bumped, decayed}
use Rattle.varisat_vsids.proofs.HeapOrder.{IsOrdered-map}
use Rattle.varisat_vsids.proofs.HeapView.{activities_with}

pub under : (x : ℕ) → x < activity_limit → nat_le activity_limit x ≡ false
under x h = grind (arith, nat_tests)

pub over : (x : ℕ) → activity_limit ≤ x → nat_le activity_limit x ≡ true
over x h = grind (arith, nat_tests)

none_reach : (xs : List ℕ) → ((v : ℕ) → get_or xs v 0 < activity_limit) → reaches_limit xs ≡ false
none_reach [] h = refl
none_reach (x ∷ xs) h = rw (under x (h 0)) (none_reach xs (λ v. h (suc v)))

-- where one of them is x
one_reaches : (xs : List ℕ) (v x : ℕ) → ((w : ℕ) → get_or xs w 0 < activity_limit) → v < length xs → reaches_limit (set xs v x) ≡ nat_le activity_limit x
one_reaches [] v x h l = absurd (omega arith)
one_reaches (y ∷ ys) zero x h l = rw (none_reach ys (λ w. h (suc w))) (or-false (nat_le activity_limit x))
one_reaches (y ∷ ys) (suc v) x h l = rw (under y (h 0)) (one_reaches ys v x (λ w. h (suc w)) (omega arith))

rescaled_is : (full : Bool) (activity : List ℕ) (available : List Bool) (i d : ℕ) → reaches_limit (i ∷ activity) ≡ full
    → activities_with (shifted full activity) available (shifted_increment full i) d ≡ rescaled (activities_with activity available i d)
rescaled_is full activity available i d r = ap (λ (b : Bool). activities_with (shifted b activity) available (shifted_increment b i) d) (sym r)

-- what one activity that was set reaches decides
set_is : (full : Bool) (activity : List ℕ) (available : List Bool) (v i d x : ℕ) → AreWithinLimits activity i d → v < length activity →
    nat_le activity_limit x ≡ full
    → activities_with (shifted full (set activity v x)) available (shifted_increment full i) d ≡ rescaled (activities_with (set activity v x) available i d)
set_is full activity available v i d x w h f =
    let r : reaches_limit (i ∷ set activity v x) ≡ full = rw (under i w.small) (one_reaches activity v x w.below h ∙ f) in
    rescaled_is full (set activity v x) available i d r

-- the same of a bump, where r is the activity that was read
pub bumped_is : (full : Bool) (activity : List ℕ) (available : List Bool) (v i d r : ℕ) → AreWithinLimits activity i d → v < length activity →
    r ≡ get_or activity v 0 → nat_le activity_limit (r + i) ≡ full
    → activities_with (shifted full (set activity v (r + i))) available (shifted_increment full i) d ≡ bumped v (activities_with activity available i d)
bumped_is full activity available v i d r w h e f = rw e (set_is full activity available v i d (get_or activity v 0 + i) w h (rw e at f))

pub bumped_small : (activity : List ℕ) (v i d r : ℕ) → AreWithinLimits activity i d → r ≡ get_or activity v 0 → r + i < 2 ^ 61
bumped_small activity v i d r w e = let b : get_or activity v 0 < activity_limit = w.below v in omega (arith, b, e, w.small)

-- what the increment reaches decides
pub decayed_is : (full : Bool) (activity : List ℕ) (available : List Bool) (i d : ℕ) → AreWithinLimits activity i d →
    nat_le activity_limit (i * 1000 / d) ≡ full
    → activities_with (shifted full activity) available (shifted_increment full (i * 1000 / d)) d ≡ decayed (activities_with activity available i d)
decayed_is full activity available i d w f =
    rescaled_is full activity available (i * 1000 / d) d (rw (none_reach activity w.below) (or-false (nat_le activity_limit (i * 1000 / d)) ∙ f))

-- a shift keeps the order
pub shifted_heap : (activity heap position : List ℕ) (n : ℕ) → IsHeap activity heap position n → IsHeap (map (λ x. x / 2 ^ 40) activity) heap position n
shifted_heap activity heap position n h = record {
  linked = h.linked;
  known = length-map activity (λ x. x / 2 ^ 40) ∙ h.known;
  part = h.part;
  order = IsOrdered-map (key activity heap) (key (map (λ x. x / 2 ^ 40) activity) heap) n (λ x. x / 2 ^ 40) h.order
      (λ x y l. omega arith)
      (λ j jn. get_or-map (λ x. x / 2 ^ 40) activity (get_or heap j 0) 0);
}

pub shifted_limits : (activity : List ℕ) (i d : ℕ) → ((v : ℕ) → get_or activity v 0 < 2 ^ 61) → i < 2 ^ 90 → d ≤ 999 → 500 ≤ d →
    AreWithinLimits (map (λ x. x / 2 ^ 40) activity) (max least_increment (i / 2 ^ 40)) d
shifted_limits activity i d below few slow fast = record {
  below = λ v. let b : get_or activity v 0 < 2 ^ 61 = below v in rw (get_or-map (λ x. x / 2 ^ 40) activity v 0) (omega (arith, b));
  least = omega arith;
  small = omega arith;
  slow = slow;
  fast = fast;
}

pub raised_below : (activity : List ℕ) (v i d x : ℕ) → AreWithinLimits activity i d → v < length activity → x < 2 ^ 61 → (w : ℕ) →
    get_or (set activity v x) w 0 < 2 ^ 61
raised_below activity v i d x l h e w =
    elim (eqb_tells w v) [
      | inl t ↦ rw (t.1, get_or-set_same activity v x 0 h) e
      | inr t ↦ let b : get_or activity w 0 < activity_limit = l.below w in rw (get_or-set_other activity v w x 0 t.1) (omega (arith, b))
    ]

pub decayed_small : (i d : ℕ) → i < activity_limit → i * 1000 / d < 2 ^ 90
decayed_small i d h = let s : i * 1000 / d ≤ i * 1000 = div-le_self (i * 1000) d in omega (arith, s)

below_longer : (xs : List ℕ) → ((v : ℕ) → get_or xs v 0 < activity_limit) → (v : ℕ) → get_or (xs ++ 0 ∷ []) v 0 < activity_limit
below_longer [] h zero = omega arith
below_longer [] h (suc v) = omega arith
below_longer (x ∷ xs) h zero = h 0
below_longer (x ∷ xs) h (suc v) = below_longer xs (λ w. h (suc w)) v

-- one variable more, of activity 0
pub one_more_limits : (activity : List ℕ) (i d : ℕ) → AreWithinLimits activity i d → AreWithinLimits (activity ++ 0 ∷ []) i d
one_more_limits activity i d l = record { below = below_longer activity l.below; least = l.least; small = l.small; slow = l.slow; fast = l.fast }

pub same_limits : (a a' : List ℕ) (i i' d : ℕ) → AreWithinLimits a i d → a' ≡ a → i' ≡ i → AreWithinLimits a' i' d
same_limits a a' i i' d l ea ei = rw (ea, ei) l

-- a raised activity that stays below the limit
pub raised_limits : (activity : List ℕ) (v i d x : ℕ) → AreWithinLimits activity i d → v < length activity → x < activity_limit →
    AreWithinLimits (set activity v x) i d
raised_limits activity v i d x l h e = record {
  below = λ w.
      elim (eqb_tells w v) [
        | inl t ↦ rw (t.1, get_or-set_same activity v x 0 h) e
        | inr t ↦ rw (get_or-set_other activity v w x 0 t.1) (l.below w)
      ];
  least = l.least;
  small = l.small;
  slow = l.slow;
  fast = l.fast;
}
