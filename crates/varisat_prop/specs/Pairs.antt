-- Clauses of two literals, as what each literal implies by them.
use Rattle.std.specs.Prelude.{◌≡◌, ℕ, ◌+◌, ◌-◌, ◌/◌, ◌^◌, min, List, [], ◌∷◌, ◌++◌, length, slice_set, slice_index_or, ◌⊎◌}
use Rattle.varisat_theory.specs.promises.Membership.{◌∈◌}
use Rattle.varisat_theory.specs.promises.Literals.{Literal, Clause, opposite}

-- one more literal that x implies
abbrev pub with_implied : List (List Literal) → Literal → Literal → List (List Literal)
with_implied B x m = slice_set B x (slice_index_or B x [] ++ m ∷ [])

-- the clause of a and b is kept too: each is implied by the other's opposite
abbrev pub with_pair : List (List Literal) → Literal → Literal → List (List Literal)
with_pair B a b = with_implied (with_implied B (opposite a) b) (opposite b) a

-- how often literals are implied
abbrev pub entry_count : List (List Literal) → ℕ
entry_count [] = 0
entry_count (ms ∷ B) = length ms + entry_count B

-- how many clauses there are, each of which stands in two lists; no more than 2^64 - 1 entries are counted
abbrev pub pair_count : List (List Literal) → ℕ
pair_count B = min (entry_count B) (2 ^ 64 - 1) / 2

-- p is inserted in a list of clauses
pub record Inserts (cs ds : List Clause) (p : Clause) : Type 0 where
  pub front : List Clause
  pub back : List Clause
  pub old : cs ≡ front ++ back
  pub new : ds ≡ front ++ p ∷ back

-- The clause of a and b joins: by each of its literals' opposites, and nothing else is implied.
pub record AddsPair (B C : List (List Literal)) (a b : Literal) : Type 0 where
  pub count : length C ≡ length B
  pub old : (l m : Literal) → m ∈ slice_index_or B l [] → m ∈ slice_index_or C l []
  pub first : b ∈ slice_index_or C (opposite a) []
  pub second : a ∈ slice_index_or C (opposite b) []
  pub new : (l m : Literal) → m ∈ slice_index_or C l [] →
      (m ∈ slice_index_or B l []) ⊎ (((l ≡ opposite a) × (m ≡ b)) ⊎ ((l ≡ opposite b) × (m ≡ a)))
