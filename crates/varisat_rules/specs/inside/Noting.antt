-- Where the literals of a clause were noted to stand.
use Rattle.std.specs.Prelude.{◌≡◌, ℕ, ◌/◌, ◌<◌, List, length, slice_index_or}
use Rattle.varisat_theory.specs.promises.Membership.{◌∈◌}
use Rattle.varisat_theory.specs.promises.Literals.{Literal, Clause}
use Rattle.varisat_database.specs.Names.{short_of}

-- at this position stands a literal of the variable's short name
abbrev pub StandsAt : List ℕ → Clause → Literal → ℕ → Type 0
StandsAt names c m p = (p < length c) × (short_of names (slice_index_or c p 0) / 2 ≡ short_of names m / 2)

-- so it is of the position that was noted for each literal of the clause whose short name has one
abbrev pub NotesPositions : List ℕ → List ℕ → Clause → Type 0
NotesPositions names positions c =
    (m : Literal) → m ∈ c → short_of names m / 2 < length positions →
    StandsAt names c m (slice_index_or positions (short_of names m / 2) 0)
