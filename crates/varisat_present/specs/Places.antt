-- Clauses at places: a place is empty once its clause is deleted.
use Rattle.std.specs.Prelude.{◌≡◌, ℕ, zero, suc, ◌<◌, ◌≤◌, Bool, true, false, List, [], ◌∷◌, length, Option, Some, None, Vec, slice_index_or}
use Rattle.std.specs.BTreeMap.{BTreeMap, get}
use Rattle.std.specs.Ordering.{nat_cmp}
use Rattle.varisat_theory.specs.promises.Literals.{Clause}
use Rattle.varisat_theory.specs.promises.Membership.{◌∈◌, IsDistinct}

-- the clauses that are present, in the order of their places
abbrev pub present : {A : Type 0} → List (Option (Vec ℕ A)) → List Clause
present [] = []
present (None ∷ cs) = present cs
present (Some v ∷ cs) = v.items ∷ present cs

-- the literals, if there are any
abbrev pub literals_there : {A : Type 0} → Option (Vec ℕ A) → Option Clause
literals_there None = None
literals_there (Some v) = Some v.items

-- the clause at a place, if one is there
abbrev pub present_at : {A : Type 0} → List (Option (Vec ℕ A)) → ℕ → Option Clause
present_at [] i = None
present_at (o ∷ cs) zero = literals_there o
present_at (o ∷ cs) (suc i) = present_at cs i

-- a list has what is kept for literals below this code alone: 2 to the power of 22
abbrev pub place_limit : ℕ
place_limit = 4194304

-- each literal below the limit has a mark, and no other has one
pub record MarksKnown (literals : List ℕ) (marks : List Bool) : Type 0 where
  pub short : length marks ≤ place_limit
  pub distinct : IsDistinct literals
  pub marked : (l : ℕ) → l ∈ literals → l < place_limit → slice_index_or marks l false ≡ true
  pub known : (l : ℕ) → slice_index_or marks l false ≡ true → l ∈ literals

-- these literals lose their marks
pub record LosesMarks (gone : List ℕ) (old new : List Bool) : Type 0 where
  pub size : length new ≡ length old
  pub none : (l : ℕ) → l ∈ gone → slice_index_or new l false ≡ false
  pub rest : (l : ℕ) → (l ∈ gone → ⊥) → slice_index_or new l false ≡ slice_index_or old l false

-- each literal from the limit on stands at the place that the map has for it
abbrev pub AreFarPlaced : List ℕ → BTreeMap ℕ ℕ → Type 0
AreFarPlaced literals far = (k : ℕ) → k < length literals → place_limit ≤ slice_index_or literals k 0 →
    get nat_cmp far (slice_index_or literals k 0) ≡ Some k
