-- A binary heap. All variables stand in one list, and the available ones, which stand first, are the heap.
use Rattle.std.specs.Prelude.{◌≡◌, ◌≢◌, ℕ, ◌-◌, ◌/◌, ◌<◌, ◌≤◌, List, length, map, slice_index, Bool, nat_lt}
use Rattle.varisat_literals.specs.promises.Numbers.{variable_limit}

-- each variable stands at its position, and at no other place
pub record IsLinked (heap position : List ℕ) : Type 0 where
  pub count : length position ≡ length heap
  pub small : length heap ≤ variable_limit
  pub known : (k : ℕ) → k < length heap → slice_index heap k < length heap
  pub placed : (k : ℕ) → k < length heap → slice_index position (slice_index heap k) ≡ k
  pub within : (v : ℕ) → v < length heap → slice_index position v < length heap
  pub stands : (v : ℕ) → v < length heap → slice_index heap (slice_index position v) ≡ v

-- for each variable whether it stands among the first n
abbrev pub availability : ℕ → List ℕ → List Bool
availability n position = map (λ p. nat_lt p n) position

-- the place above another one
abbrev pub parent : ℕ → ℕ
parent k = (k - 1) / 2

-- the activity of the variable at a place
abbrev pub key : List ℕ → List ℕ → ℕ → ℕ
key activity heap k = slice_index activity (slice_index heap k)

-- no place of the first n has a greater key than its parent
abbrev pub IsOrdered : (ℕ → ℕ) → ℕ → Type 0
IsOrdered key n = (j : ℕ) → 0 < j → j < n → key j ≤ key (parent j)

-- the same but for the place k, whose children are in order with its parent
pub record IsOrderedBut (key : ℕ → ℕ) (n k : ℕ) : Type 0 where
  pub order : (j : ℕ) → 0 < j → j < n → j ≢ k → parent j ≢ k → key j ≤ key (parent j)
  pub over : 0 < k → (j : ℕ) → 0 < j → j < n → parent j ≡ k → key j ≤ key (parent k)

-- in order but for the children of the place k, which are in order with its parent
pub record IsOrderedUnder (key : ℕ → ℕ) (n k : ℕ) : Type 0 where
  pub order : (j : ℕ) → 0 < j → j < n → parent j ≢ k → key j ≤ key (parent j)
  pub over : 0 < k → (j : ℕ) → 0 < j → j < n → parent j ≡ k → key j ≤ key (parent k)

-- no child of the place k has a greater key
abbrev pub IsNoChildGreater : (ℕ → ℕ) → ℕ → ℕ → Type 0
IsNoChildGreater key n k = (j : ℕ) → 0 < j → j < n → parent j ≡ k → key j ≤ key k

-- c is a greatest child of k, and greater than the value
pub record IsGreaterChild (key : ℕ → ℕ) (n k value c : ℕ) : Type 0 where
  pub below : c < n
  pub positive : 0 < c
  pub child : parent c ≡ k
  pub greater : value < key c
  pub greatest : (j : ℕ) → 0 < j → j < n → parent j ≡ k → key j ≤ key c

-- the first n variables are a heap
pub record IsHeap (activity heap position : List ℕ) (n : ℕ) : Type 0 where
  pub linked : IsLinked heap position
  pub known : length activity ≡ length heap
  pub part : n ≤ length heap
  pub order : IsOrdered (key activity heap) n

-- the first n variables are a heap but for the place k
pub record IsHeapBut (activity heap position : List ℕ) (n k : ℕ) : Type 0 where
  pub linked : IsLinked heap position
  pub known : length activity ≡ length heap
  pub part : n ≤ length heap
  pub order : IsOrderedBut (key activity heap) n k

-- the first n variables are a heap but for the children of the place k
pub record IsHeapUnder (activity heap position : List ℕ) (n k : ℕ) : Type 0 where
  pub linked : IsLinked heap position
  pub known : length activity ≡ length heap
  pub part : n ≤ length heap
  pub order : IsOrderedUnder (key activity heap) n k
