-- Which variables may be decided, and what backtracking and deciding make of them.
use Rattle.std.specs.Prelude.{◌≡◌, ◌≢◌, ℕ, ◌<◌, ◌≤◌, Bool, true, Option, Some, None, List, length, slice_index_or, slice_set, if◌then◌else◌, MatchOption, ◌⊎◌, ◌↔◌}
use Rattle.varisat_theory.specs.promises.Membership.{◌∈◌}
use Rattle.varisat_theory.specs.promises.Literals.{Clause, Literal, variable_of}
use Rattle.varisat_prop.specs.View.{View, kept, decision_at}
use Rattle.varisat_vsids.specs.Activities.{Activities, activity_of, is_available}
use Rattle.varisat_search.specs.Steps.{LeavesFrom}

-- each variable has an activity, and is available or not
pub record HasActivities (s : View) (a : Activities) : Type 0 where
  pub activity : length a.activity ≡ length s.values
  pub available : length a.available ≡ length s.values

-- the variable has a value, or is available for a decision
abbrev pub IsDecidable : View → Activities → ℕ → Type 0
IsDecidable s a v = (slice_index_or s.values v None ≢ None) ⊎ (is_available a v ≡ true)

-- each literal of the clause is of such a variable
abbrev pub AreDecidable : View → Activities → Clause → Type 0
AreDecidable s a c = (l : Literal) → l ∈ c → IsDecidable s a (variable_of l)

-- Decisions can go on until each literal of a kept clause has a value.
pub record CanDecide (s : View) (a : Activities) : Type 0 where
  pub entries : HasActivities s a
  pub decidable : (c : Clause) → c ∈ kept s → AreDecidable s a c

-- The same variables are decidable.
abbrev pub SameDecidable : View → Activities → View → Activities → Type 0
SameDecidable s a t b = (v : ℕ) → IsDecidable s a v ↔ IsDecidable t b v

-- Each variable but this one is decidable exactly where it was.
abbrev pub SameDecidableBut : ℕ → View → Activities → View → Activities → Type 0
SameDecidableBut v s a t b = (w : ℕ) → w ≢ v → IsDecidable s a w ↔ IsDecidable t b w

-- Backtracking to the level makes exactly the variables that leave the trail available, and each other one stays as it was.
pub record MakesAvailable (s : View) (level : ℕ) (a b : Activities) : Type 0 where
  pub rest : b ≡ record a { available = b.available }
  pub count : length b.available ≡ length a.available
  pub left : (v : ℕ) → LeavesFrom s (decision_at s level) v → is_available b v ≡ true
  pub stays : (v : ℕ) → (LeavesFrom s (decision_at s level) v → ⊥) → is_available b v ≡ is_available a v

-- The variable has no value and is available, and no such variable has a greater activity.
pub record IsNextDecision (values : List (Option Bool)) (a : Activities) (v : ℕ) : Type 0 where
  pub known : v < length a.activity
  pub unassigned : slice_index_or values v None ≡ None
  pub available : is_available a v ≡ true
  pub greatest : (w : ℕ) → is_available a w ≡ true → slice_index_or values w None ≡ None →
      activity_of a w ≤ activity_of a v

-- Variables with a value were made unavailable, and the returned one, which has none. Where none is returned each available variable had a value.
pub record TakesUnassigned (values : List (Option Bool)) (a b : Activities) (taken : Option ℕ) : Type 0 where
  pub rest : b ≡ record a { available = b.available }
  pub count : length b.available ≡ length a.available
  pub fewer : (v : ℕ) → is_available b v ≡ true → is_available a v ≡ true
  pub open_stays : (v : ℕ) → is_available a v ≡ true → slice_index_or values v None ≡ None →
      (taken ≡ Some v) ⊎ (is_available b v ≡ true)
  pub found : MatchOption taken ((v : ℕ) → is_available a v ≡ true → slice_index_or values v None ≢ None)
      (IsNextDecision values a)

-- the variable has activity 0, and where it is `on` it is available
abbrev pub initialized : ℕ → Bool → Activities → Activities
initialized v on a =
    record a {
      activity = slice_set a.activity v 0;
      available =
          if on then slice_set a.available v true else a.available;
    }
