-- Variables that are flagged.
use Rattle.std.specs.Prelude.{◌≡◌, ℕ, Bool, true, false, List, slice_index_or}
use Rattle.varisat_theory.specs.promises.Membership.{◌∈◌}
use Rattle.varisat_theory.specs.promises.Literals.{Literal, Clause, variable_of}

-- the variable is flagged
abbrev pub IsFlagged : List Bool → ℕ → Type 0
IsFlagged flags v = slice_index_or flags v false ≡ true

-- so is that of each literal
abbrev pub AreFlagged : List Bool → List Literal → Type 0
AreFlagged flags ls = (l : Literal) → l ∈ ls → IsFlagged flags (variable_of l)

-- so is that of none
abbrev pub AreClear : List Bool → List Literal → Type 0
AreClear flags ls = (l : Literal) → l ∈ ls → IsFlagged flags (variable_of l) → ⊥

-- what is flagged in the first list is flagged in the second
abbrev pub AreAmong : List Bool → List Bool → Type 0
AreAmong f g = (v : ℕ) → IsFlagged f v → IsFlagged g v

-- of all clauses
abbrev pub AllFlagged : List Bool → List Clause → Type 0
AllFlagged flags P = (c : Clause) → c ∈ P → AreFlagged flags c

abbrev pub AllClear : List Bool → List Clause → Type 0
AllClear flags P = (c : Clause) → c ∈ P → AreClear flags c
