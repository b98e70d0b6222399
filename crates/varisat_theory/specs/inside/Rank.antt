-- How far a trail has come.
use Rattle.std.specs.Prelude.{ℕ, pred, ◌+◌, ◌^◌, Bool, true, false, List, [], ◌∷◌, ◌++◌, replicate}

-- The rank of a trail over n variables: at place i, counted from 0, an implied literal, which is `true` here, adds 2^(n-i), and a decision 1.
abbrev pub rank : ℕ → List Bool → ℕ
rank n [] = 0
rank n (true ∷ trail) = 2 ^ n + rank (pred n) trail
rank n (false ∷ trail) = 1 + rank (pred n) trail

-- the flags of a trail from which u units were removed: they stand first, as implied literals
abbrev pub with_units : ℕ → List Bool → List Bool
with_units u trail = replicate u true ++ trail
