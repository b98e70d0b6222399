-- What is true of a database inside.
use Rattle.std.specs.Prelude.{◌≡◌, ℕ, ◌<◌, ◌≤◌, ◌^◌, Bool, true, false, List, [], length, slice_index_or}
use Rattle.varisat_theory.specs.promises.Membership.{◌∈◌}
use Rattle.varisat_theory.specs.promises.Literals.{Literal, Clause}
use Rattle.varisat_database.specs.Names.{short_of}

-- each live clause is listed for each of its literals, under its short name
abbrev pub ListsOccurrences : List ℕ → List Clause → List Bool → List (List ℕ) → Type 0
ListsOccurrences names cs live lists =
    (k l : ℕ) → slice_index_or live k false ≡ true → l ∈ slice_index_or cs k [] →
    k ∈ slice_index_or lists (short_of names l) []

-- each clause is live or not, and they are listed if the flag says so
pub record IsSoundDatabase (n : ℕ) (cs : List Clause) (live : List Bool) (is_listed : Bool) (names : List ℕ)
    (lists : List (List ℕ)) : Type 0 where
  pub even : length live ≡ length cs
  pub small : n ≤ 2 ^ 31
  pub listed : is_listed ≡ true → ListsOccurrences names cs live lists

-- as many lists, each with what it had
pub record Grows (old new : List (List ℕ)) : Type 0 where
  pub same : length new ≡ length old
  pub more : (l k : ℕ) → k ∈ slice_index_or old l [] → k ∈ slice_index_or new l []

-- the place is listed for each literal, under its short name
abbrev pub IsListed : List ℕ → List (List ℕ) → List Literal → ℕ → Type 0
IsListed names lists c k =
    (l : Literal) → l ∈ c → (short_of names l < length lists) × (k ∈ slice_index_or lists (short_of names l) [])

-- what the lists keep of the live places
pub record KeepsLive (old new : List (List ℕ)) (live : List Bool) : Type 0 where
  pub same : length new ≡ length old
  pub kept : (l k : ℕ) → slice_index_or live k false ≡ true → k ∈ slice_index_or old l [] → k ∈ slice_index_or new l []
