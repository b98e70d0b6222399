-- A one-to-one map between the variables of two name spaces.
use Rattle.std.specs.Prelude.{◌≡◌, ℕ, Option, Some, None, List, [], MatchOption}
use Rattle.varisat_names.specs.promises.VarMap.{at, IsPut}
use Rattle.varisat_names.specs.declared.variables.var_map.Direction.{Direction}
use Rattle.varisat_names.specs.declared.variables.var_map.Direction.TheVariants.{Forward, Backward}

-- A map and the way back. The watermarks are the lengths.
pub record BiMap : Type 0 where
  pub forward : List (Option ℕ)
  pub backward : List (Option ℕ)

-- nothing is mapped
abbrev pub no_pairs : BiMap
no_pairs = record { forward = []; backward = [] }

-- the same pairs, from the other side
abbrev pub turned : BiMap → BiMap
turned m = record { forward = m.backward; backward = m.forward }

-- the pairs, as they are seen in the direction
abbrev pub directed : Direction → BiMap → BiMap
directed Forward m = m
directed Backward m = turned m

-- one more pair
pub record IsJoined (old new : BiMap) (from into : ℕ) : Type 0 where
  pub forward : IsPut old.forward from (Some into) new.forward
  pub backward : IsPut old.backward into (Some from) new.backward

-- one pair less
pub record IsParted (old new : BiMap) (from into : ℕ) : Type 0 where
  pub forward : IsPut old.forward from None new.forward
  pub backward : IsPut old.backward into None new.backward

-- as they are seen in the direction, the pair of `from` was taken out, and leads to what is returned; or it has none, and nothing changed
abbrev pub RemovesPair : Direction → BiMap → ℕ → Option ℕ → BiMap → Type 0
RemovesPair direction old from returned new = MatchOption returned
    ((at (directed direction old).forward from ≡ None) × (new ≡ old))
    (λ into. (at (directed direction old).forward from ≡ Some into)
    × IsParted (directed direction old) (directed direction new) from into)
