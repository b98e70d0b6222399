-- The Luby sequence and the restart points.
use Rattle.std.specs.Prelude.{ℕ, zero, suc, ◌+◌, ◌-◌, ◌*◌, ◌^◌, ◌%◌, nat_lt, nat_eq, if◌then◌else◌, min}

-- term i, where 0 < i < 2^k
abbrev pub luby_below : ℕ → ℕ → ℕ
luby_below zero i = 0
luby_below (suc k) i =
    if nat_eq i (2 ^ suc k - 1) then 2 ^ k else luby_below k (if nat_lt i (2 ^ k) then i else i - 2 ^ k + 1)

-- term i of the Luby sequence, from 1 on: 2^(k-1) for i = 2^k - 1, and else term i - 2^(k-1) + 1 for 2^(k-1) <= i < 2^k - 1
unfoldable pub luby : ℕ → ℕ
luby i = luby_below i i

-- the sum of r values of f from i on
abbrev pub sum_from : (ℕ → ℕ) → ℕ → ℕ → ℕ
sum_from f i zero = 0
sum_from f i (suc r) = f i + sum_from f (suc i) r

-- a 64-bit number that stays at its largest value
abbrev pub saturated : ℕ → ℕ
saturated x = min x (2 ^ 64 - 1)

-- restart point i, counted from 0: the sum of the scale times the terms before it
abbrev pub restart_point : ℕ → ℕ → ℕ
restart_point scale i = saturated (scale * sum_from luby 1 i)

-- Knuth's walk: a place, and the exponent of the term that comes next
pub record Walk : Type 0 where
  pub place : ℕ
  pub exponent : ℕ

-- after the largest power of 2 that divides the place comes the next place, and else the next power
abbrev pub next_walk : Walk → Walk
next_walk w =
    if nat_eq (w.place % 2 ^ suc w.exponent) (2 ^ w.exponent) then record { place = suc w.place; exponent = 0 }
    else record {
      place = w.place;
      exponent = suc w.exponent;
    }

-- the walk before term i + 1
abbrev pub walk_at : ℕ → Walk
walk_at zero = record { place = 1; exponent = 0 }
walk_at (suc i) = next_walk (walk_at i)
