-- How many steps a call makes: where it restarts, and how its steps stand to the rank of the trail.
use Rattle.std.specs.Prelude.{◌≡◌, ℕ, zero, suc, ◌+◌, ◌*◌, ◌^◌, ◌<◌, ◌≤◌, Bool, List, length}
use Rattle.varisat_theory.specs.inside.Rank.{rank}
use Rattle.varisat_theory.specs.inside.Luby.{luby, sum_from, saturated}

-- k steps are few for n variables
abbrev pub AreFew : ℕ → ℕ → Type 0
AreFew n k = (k < (n + 2) * 2 ^ (n + 2)) × (k < 2 ^ (2 * n + 3))

-- A call over that many variables, whose first step has the number `start`. Its first restart point is whatever was computed
-- before it, and each further one is later by the scale times the next term, from `term` + 1 on.
pub record CallSetting : Type 0 where
  pub variables : ℕ
  pub scale : ℕ
  pub first : ℕ
  pub term : ℕ
  pub start : ℕ

-- restart point i of the call, counted from 0
abbrev pub call_point : CallSetting → ℕ → ℕ
call_point c i = saturated (c.first + c.scale * sum_from luby (suc c.term) i)

-- where interval i of the call begins, which ends at restart point i: the first at the call's first step, each further one at
-- the point before
abbrev pub interval_begin : CallSetting → ℕ → ℕ
interval_begin c zero = c.start
interval_begin c (suc i) = call_point c i

-- the step with that number lies within interval i, and the interval has fewer than 2^(n+1) steps
pub record IsInShortInterval (c : CallSetting) (number i : ℕ) : Type 0 where
  pub begun : interval_begin c i ≤ number
  pub ahead : number < call_point c i
  pub short : call_point c i < interval_begin c i + 2 ^ suc c.variables

-- A step but the last leaves a trail of greater rank than the one before it, or begins at a restart point, or within a short
-- interval, and leaves a trail that is not empty.
pub data IsCallStep (c : CallSetting) (number : ℕ) (before after : List Bool) : Type 0 where
  Rises : rank c.variables before < rank c.variables after → IsCallStep c number before after
  Restarts : (i : ℕ) → number ≡ call_point c i → 0 < rank c.variables after → IsCallStep c number before after
  RestartsWithin : (i : ℕ) → IsInShortInterval c number i → 0 < rank c.variables after →
      IsCallStep c number before after

-- The call makes that many steps, and `trail t` has the flags of the trail after t of them.
pub record IsCall (c : CallSetting) (steps : ℕ) (trail : ℕ → List Bool) : Type 0 where
  pub scaled : 0 < c.scale
  pub counted : c.start + steps < 2 ^ 64
  pub fits : (t : ℕ) → t ≤ steps → length (trail t) ≤ c.variables
  pub step : (t : ℕ) → suc t < steps → IsCallStep c (c.start + t) (trail t) (trail (suc t))

-- The last `since` of t steps are at most as many as the rank now, or they lie in an interval that is short and has not ended,
-- at point i.
pub data IsLastStretch (c : CallSetting) (t since top : ℕ) : Type 0 where
  ByRank : since ≤ top → IsLastStretch c t since top
  ByLength : (i : ℕ) → c.start + t ≤ call_point c i →
      call_point c i + since < c.start + t + 2 ^ suc c.variables → IsLastStretch c t since top

-- Of t steps `before` were made up to the first point from which the steps are counted anew, point `begun`, then those of `whole`
-- intervals, and `since` after those; the trail has rank `top` now.
pub record HasRestarted (c : CallSetting) (t top : ℕ) : Type 0 where
  pub begun : ℕ
  pub whole : ℕ
  pub before : ℕ
  pub since : ℕ
  pub total : t ≡ before + c.scale * sum_from luby (suc (c.term + begun)) whole + since
  pub point : c.start + before ≡ c.first + c.scale * sum_from luby (suc c.term) begun
  pub small : (u : ℕ) → u < whole → c.scale * luby (suc (c.term + begun) + u) < 2 ^ suc c.variables
  pub early : before < 2 ^ suc c.variables
  pub late : IsLastStretch c t since top

-- What a loop of steps keeps: t steps have been made since the call began, and the trail has rank `top`.
pub data CallProgress (c : CallSetting) (t top : ℕ) : Type 0 where
  BeforeRestart : IsLastStretch c t t top → CallProgress c t top
  AfterRestart : HasRestarted c t top → CallProgress c t top
