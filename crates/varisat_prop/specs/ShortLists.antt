-- A list whose items stand in place as long as they are few.
use Rattle.std.specs.Prelude.{ℕ, List, take, nat_le, if◌then◌else◌}

-- the first `count` of the few, unless it is more than the limit: then all are in the other list
abbrev pub short_list : {X : Type 0} → ℕ → List X → ℕ → List X → List X
short_list limit few count many = if nat_le count limit then take count few else many
