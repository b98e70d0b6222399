-- What a user sees of the variables by activity. The order in which they stand is not seen.
use Rattle.std.specs.Prelude.{◌≡◌, ℕ, ◌+◌, ◌-◌, ◌*◌, ◌/◌, ◌^◌, ◌<◌, ◌≤◌, List, [], ◌∷◌, ◌++◌, length, map, max, replicate, slice_index, slice_index_or, slice_set, Bool, true, false, if◌then◌else◌, nat_le, Option, MatchOption}
use Rattle.std.specs.List.{list_any, count_by}
use Rattle.std.specs.Iterator.{Count, at_most}

-- For each variable its activity and whether it is available; what a bump adds; and the decay, in thousandths.
pub record Activities : Type 0 where
  pub activity : List ℕ
  pub available : List Bool
  pub increment : ℕ
  pub decay : ℕ

-- the increment at first, below which it never falls
abbrev pub least_increment : ℕ
least_increment = 2 ^ 20

-- where an activity or the increment reaches it, all are shifted
abbrev pub activity_limit : ℕ
activity_limit = 2 ^ 60

-- before the first variable
abbrev pub no_activities : Activities
no_activities = record { activity = []; available = []; increment = least_increment; decay = 950 }

-- the activity of the variable
abbrev pub activity_of : Activities → ℕ → ℕ
activity_of a v = slice_index a.activity v

-- whether the variable may be decided
abbrev pub is_available : Activities → ℕ → Bool
is_available a v = slice_index_or a.available v false

-- whether one of the numbers is at the limit or above
abbrev pub reaches_limit : List ℕ → Bool
reaches_limit xs = list_any (λ x. nat_le activity_limit x) xs

-- shifted right by 40, where `full`
abbrev pub shifted : Bool → List ℕ → List ℕ
shifted full xs = if full then map (λ x. x / 2 ^ 40) xs else xs

-- the increment is divided too, but never below where it began
abbrev pub shifted_increment : Bool → ℕ → ℕ
shifted_increment full i = if full then max least_increment (i / 2 ^ 40) else i

-- where an activity or the increment has reached the limit, all are shifted right by 40, and the increment is at least what it was first
abbrev pub rescaled : Activities → Activities
rescaled a =
    record a {
      activity = shifted (reaches_limit (a.increment ∷ a.activity)) a.activity;
      increment = shifted_increment (reaches_limit (a.increment ∷ a.activity)) a.increment;
    }

-- the variable's activity is raised by the increment
abbrev pub bumped : ℕ → Activities → Activities
bumped v a = rescaled (record a { activity = slice_set a.activity v (slice_index a.activity v + a.increment) })

-- activities decay, in proportion to what later bumps add: the increment is divided by the decay
abbrev pub decayed : Activities → Activities
decayed a = rescaled (record a { increment = a.increment * 1000 / a.decay })

-- the variable becomes available, or unavailable
abbrev pub with_available : ℕ → Bool → Activities → Activities
with_available v b a = record a { available = slice_set a.available v b }

-- the same with more variables, of activity 0 and not available
abbrev pub raised_to : ℕ → Activities → Activities
raised_to count a =
    record a {
      activity = a.activity ++ replicate (count - length a.activity) 0;
      available =
          a.available ++ replicate (count - length a.activity) false;
    }

-- an available variable, and none has a greater activity
pub record IsGreatest (a : Activities) (v : ℕ) : Type 0 where
  pub known : v < length a.activity
  pub available : is_available a v ≡ true
  pub greatest : (w : ℕ) → is_available a w ≡ true → activity_of a w ≤ activity_of a v

-- None where no variable is available, and else a greatest, which becomes unavailable
abbrev pub TakesGreatest : Activities → Option ℕ → Activities → Type 0
TakesGreatest a taken b =
    MatchOption taken (((v : ℕ) → is_available a v ≡ false) × (b ≡ a))
    (λ v. IsGreatest a v × (b ≡ with_available v false a))

-- how many variables are available
abbrev pub available_count : Activities → Count
available_count a = at_most (count_by (λ b. b) a.available)

-- what the numbers keep to between calls
pub record AreWithinLimits (activity : List ℕ) (increment decay : ℕ) : Type 0 where
  pub below : (v : ℕ) → slice_index activity v < activity_limit
  pub least : least_increment ≤ increment
  pub small : increment < activity_limit
  pub slow : decay ≤ 999
  pub fast : 500 ≤ decay
