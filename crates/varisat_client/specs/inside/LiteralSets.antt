-- Sets of literals, by a flag each.
use Rattle.std.specs.Prelude.{◌≡◌, ℕ, Bool, true, false, List, ◌↔◌, ◌<◌, slice_index_or}
use Rattle.varisat_theory.specs.promises.Membership.{◌∈◌}
use Rattle.varisat_theory.specs.promises.Literals.{Literal}

-- the literal's flag is set
abbrev pub Has : List Bool → Literal → Type 0
Has flags l = slice_index_or flags l false ≡ true

-- exactly the literals of the list are in the set
abbrev pub IsSetOf : List Literal → List Bool → Type 0
IsSetOf lits flags = (l : Literal) → Has flags l ↔ (l ∈ lits)

-- there is a flag for each literal of the list
abbrev pub HaveFlags : ℕ → List Literal → Type 0
HaveFlags count lits = (l : Literal) → l ∈ lits → l < count
