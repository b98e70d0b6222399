-- Flags by place.
use Rattle.std.specs.Prelude.{ℕ, Bool, false, List, slice_index_or}

-- whether the place is flagged
abbrev pub is_flagged : List Bool → ℕ → Bool
is_flagged flags k = slice_index_or flags k false
