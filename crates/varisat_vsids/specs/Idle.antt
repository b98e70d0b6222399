-- Variables that are available and stand outside the heap. Their activity is 0, so that no variable is less active, and they wait in the order of
-- their numbers.
use Rattle.std.specs.Prelude.{◌≡◌, ℕ, ◌/◌, ◌≤◌, List, length, slice_index, slice_index_or, Bool, true, false}

-- the variable v may be idle: its activity is 0, it was not passed, and its block of 64 is not said to have none
pub record CanIdle (activity : List ℕ) (blocks : List Bool) (cursor v : ℕ) : Type 0 where
  pub zero : slice_index activity v ≡ 0
  pub ahead : cursor ≤ v
  pub block : slice_index_or blocks (v / 64) false ≡ true

-- which variables stand in the heap and which are available: who stands in it is, and who is and does not is idle
pub record AreIdleOutside (activity : List ℕ) (standing available blocks : List Bool) (cursor : ℕ) : Type 0 where
  pub count : length available ≡ length activity
  pub block_count : length blocks ≡ length activity
  pub within : cursor ≤ length activity
  pub inside : (v : ℕ) → slice_index_or standing v false ≡ true → slice_index_or available v false ≡ true
  pub outside : (v : ℕ) → slice_index_or available v false ≡ true → slice_index_or standing v false ≡ false →
      CanIdle activity blocks cursor v

-- each variable of the list is in a block that may have one
abbrev pub AreInBlocks : List Bool → List Bool → Type 0
AreInBlocks available blocks = (v : ℕ) → slice_index_or available v false ≡ true →
    slice_index_or blocks (v / 64) false ≡ true

-- no variable before the place is available
abbrev pub IsNoneBefore : List Bool → ℕ → Type 0
IsNoneBefore available place = (v : ℕ) → slice_index_or available v false ≡ true → place ≤ v
