-- Levels in a Bloom filter of 64 bits.
use Rattle.std.specs.Prelude.{◌≡◌, ℕ, ◌%◌}
use Rattle.std.specs.Int.{bit_at}

-- the bit of the level is set
abbrev pub HasLevelBit : ℕ → ℕ → Type 0
HasLevelBit bits level = bit_at bits (level % 64) ≡ 1
