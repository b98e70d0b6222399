-- Sets of numbers as bits: whether i is in the set, the bit i % 64 of the word i / 64 says.
use Rattle.std.specs.Prelude.{ℕ, ◌/◌, ◌%◌, Bool, List, nat_eq, slice_index_or}
use Rattle.std.specs.Int.{bit_at}

-- whether the number is in the set
abbrev pub holds : List ℕ → ℕ → Bool
holds words i = nat_eq (bit_at (slice_index_or words (i / 64) 0) (i % 64)) 1
