-- Short names of variables.
use Rattle.std.specs.Prelude.{ℕ, ◌/◌, ◌%◌, nat_eq, List, slice_index_or}
use Rattle.varisat_theory.specs.promises.Literals.{Literal, literal_of}

-- the literal under its variable's name, which is the variable itself where none is listed
abbrev pub short_of : List ℕ → Literal → Literal
short_of names l = literal_of (slice_index_or names (l / 2) (l / 2)) (nat_eq (l % 2) 0)
