-- Two literals of each clause, which tell whether to look at it.
use Rattle.std.specs.Prelude.{◌≡◌, ◌≢◌, ℕ, ◌<◌, ◌≤◌, ◌⊎◌, List, length, Option, Some, Vec, slice_index_or}
use Rattle.varisat_theory.specs.promises.Literals.{Literal, Clause, opposite}
use Rattle.varisat_theory.specs.promises.Membership.{◌∈◌}
use Rattle.varisat_present.specs.Places.{present_at}

-- the clause at the place has the literal, if one is there
abbrev pub IsLiteralAt : {A : Type 0} → List (Option (Vec ℕ A)) → ℕ → Literal → Type 0
IsLiteralAt places i l = (c : Clause) → present_at places i ≡ Some c → l ∈ c

-- each of the first places has a literal of its clause in the list
pub record HaveLiterals {A : Type 0} (places : List (Option (Vec ℕ A))) (list : List Literal) : Type 0 where
  pub short : length list ≤ length places
  pub there : (i : ℕ) → i < length list → IsLiteralAt places i (slice_index_or list i 0)

-- nothing is to be propagated from a clause that has both literals
abbrev pub IsQuietPair : List Literal → Literal → Literal → Type 0
IsQuietPair known l m = ((l ≢ m) × (opposite l ∈ known → ⊥) × (opposite m ∈ known → ⊥)) ⊎ (l ∈ known)

-- so the lists tell for the place
abbrev pub IsQuietAt : List Literal → List Literal → List Literal → ℕ → Type 0
IsQuietAt known ones others i =
    (i < length ones) × (i < length others)
    × IsQuietPair known (slice_index_or ones i 0) (slice_index_or others i 0)
