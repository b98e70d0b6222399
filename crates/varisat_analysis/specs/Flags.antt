-- Flags by number, as those of variables and of literals.
use Rattle.std.specs.Prelude.{◌≡◌, ℕ, Bool, true, false, List, ◌↔◌, slice_index_or}
use Rattle.varisat_theory.specs.promises.Membership.{◌∈◌}
use Rattle.varisat_theory.specs.promises.Literals.{Literal}

-- the number's flag is set
abbrev pub IsFlagged : List Bool → ℕ → Type 0
IsFlagged flags n = slice_index_or flags n false ≡ true

-- exactly the literals of the list are flagged
abbrev pub AreFlagged : List Bool → List Literal → Type 0
AreFlagged flags lits = (l : Literal) → IsFlagged flags l ↔ (l ∈ lits)
