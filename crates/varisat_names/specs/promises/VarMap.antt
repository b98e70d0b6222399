-- A map from variables to variables, as the list of what each is mapped to. Its length is the watermark.
use Rattle.std.specs.Prelude.{◌≡◌, ◌≢◌, ℕ, suc, ◌<◌, Option, Some, None, List, [], ◌∷◌, length, max, ◌+◌, slice_index_or, nat_lt, if◌then◌else◌}
use Rattle.varisat_names.specs.promises.Maps.{updated}

-- what an entry of a map stands for: a variable by its index, or none
abbrev pub mapped : ℕ → Option ℕ
mapped code = if nat_lt code 0x8000_0000 then Some code else None

-- what the list maps the number to
abbrev pub at : List (Option ℕ) → ℕ → Option ℕ
at xs i = slice_index_or xs i None

-- the map with v at k, and so with a watermark above k
pub record IsPut (old : List (Option ℕ)) (k : ℕ) (v : Option ℕ) (new : List (Option ℕ)) : Type 0 where
  pub watermark : length new ≡ max (length old) (k + 1)
  pub at_each : (i : ℕ) → at new i ≡ updated (at old) k v i

-- the least number that the map leads nowhere
abbrev pub IsLeastUnmapped : List (Option ℕ) → ℕ → Type 0
IsLeastUnmapped map u = (at map u ≡ None) × ((v : ℕ) → v < u → at map v ≢ None)

-- the map leads somewhere from each number below its watermark
abbrev pub IsFull : List (Option ℕ) → Type 0
IsFull map = (u : ℕ) → u < length map → at map u ≢ None

-- the numbers that the list maps, in increasing order, where its first entry is that of i
abbrev pub mapped_from : ℕ → List (Option ℕ) → List ℕ
mapped_from i [] = []
mapped_from i (None ∷ xs) = mapped_from (suc i) xs
mapped_from i (Some x ∷ xs) = i ∷ mapped_from (suc i) xs
