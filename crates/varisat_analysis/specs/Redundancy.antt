-- Which literals of a clause the others imply to be false, as the search for them marks it.
use Rattle.std.specs.Prelude.{◌≡◌, ℕ, ◌+◌, ◌<◌, ◌⊎◌, Bool, true, false, List, [], ◌∷◌, ◌++◌, slice_index_or, length}
use Rattle.varisat_theory.specs.promises.Membership.{◌∈◌, ◌⊆◌}
use Rattle.varisat_theory.specs.promises.Literals.{Literal, opposite, variable_of}
use Rattle.varisat_prop.specs.Changes.{causes_of}
use Rattle.varisat_prop.specs.View.{View, node_of, level_of, is_clause}
use Rattle.varisat_analysis.specs.Flags.{IsFlagged}
use Rattle.varisat_analysis.specs.Marks.{Marking}

-- the literal is true, and a clause is its reason
abbrev pub IsImplied : View → Literal → Type 0
IsImplied s x = (x ∈ s.trail) × (is_clause (node_of s x).reason ≡ true)

-- a clause is the literal's reason, and its others are false at level 0 or marked
abbrev pub IsReasoned : View → List Bool → Literal → Type 0
IsReasoned s flags x =
    (is_clause (node_of s x).reason ≡ true)
    × ((m : Literal) → m ∈ causes_of s.clauses (node_of s x).reason →
    (level_of s m ≡ 0) ⊎ IsFlagged flags (variable_of m))

-- how many flags are not set
abbrev pub count_unmarked : List Bool → ℕ
count_unmarked [] = 0
count_unmarked (true ∷ flags) = count_unmarked flags
count_unmarked (false ∷ flags) = count_unmarked flags + 1

-- The variables that were marked since are those that were listed since, and none of them was marked before.
pub record ListsNew (x y : Marking) : Type 0 where
  pub more : (v : ℕ) → IsFlagged x.flags v → IsFlagged y.flags v
  pub since : List ℕ
  pub longer : y.to_clean ≡ x.to_clean ++ since
  pub listed : (v : ℕ) → IsFlagged y.flags v → IsFlagged x.flags v ⊎ (v ∈ since)
  pub inside : (v : ℕ) → v ∈ since → v < length x.flags
  pub fresh : (v : ℕ) → v ∈ since → slice_index_or x.flags v false ≡ false
  pub clause : y.clause ≡ x.clause
  pub involved : y.involved ≡ x.involved
  pub met : y.met ≡ x.met

-- Of false literals those above level 0 were marked, in so far as they weren't, and their opposites, which are implied, put on
-- the stack; all of them where it was `done`.
pub record Explores (s : View) (lits : List Literal) (done : Bool) (x y : Marking) : Type 0 where
  pub list : ListsNew x y
  pub new : (v : ℕ) → IsFlagged y.flags v →
      IsFlagged x.flags v ⊎ ((l : Literal) × (l ∈ y.stack) × IsImplied s l × (variable_of l ≡ v))
  pub stacked : x.stack ⊆ y.stack
  pub grown : (l : Literal) → l ∈ y.stack → (l ∈ x.stack) ⊎ IsImplied s l
  pub all : done ≡ true → (m : Literal) → m ∈ lits → (level_of s m ≡ 0) ⊎ IsFlagged y.flags (variable_of m)
  pub count : count_unmarked y.flags + length y.stack ≡ count_unmarked x.flags + length x.stack

-- The literal's opposite and whatever was marked are reasoned.
pub record IsRedundant (s : View) (l : Literal) (x y : Marking) : Type 0 where
  pub list : ListsNew x y
  pub reasoned : IsReasoned s y.flags (opposite l)
  pub others : (m : Literal) → m ∈ s.trail → IsFlagged y.flags (variable_of m) →
      IsFlagged x.flags (variable_of m) ⊎ IsReasoned s y.flags m

-- Nothing more is marked.
pub record IsAsBefore (x y : Marking) : Type 0 where
  pub flags : (v : ℕ) → slice_index_or y.flags v false ≡ slice_index_or x.flags v false
  pub to_clean : y.to_clean ≡ x.to_clean
  pub clause : y.clause ≡ x.clause
  pub involved : y.involved ≡ x.involved
  pub met : y.met ≡ x.met

-- What the search for the literal's redundancy leaves, by its result.
abbrev pub FindsRedundancy : View → Literal → Bool → Marking → Marking → Type 0
FindsRedundancy s l true x y = IsRedundant s l x y
FindsRedundancy s l false x y = IsAsBefore x y
