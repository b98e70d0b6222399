-- What a map keeps of each variable: a code, or whether it is mapped to itself.
use Rattle.std.specs.Prelude.{◌≡◌, ℕ, ◌<◌, ◌≤◌, ◌^◌, Bool, Option, Some, None, List, map, if◌then◌else◌}
use Rattle.std.specs.List.{range_with_len}
use Rattle.varisat_names.specs.promises.VarMap.{mapped}
use Rattle.varisat_names.specs.inside.NumberSets.{holds}
use Rattle.varisat_names.specs.inside.CodePages.{code_at}

-- what there is, else the number itself if it is mapped to itself
abbrev pub or_own : Option ℕ → Bool → ℕ → Option ℕ
or_own (Some x) own i = Some x
or_own None own i = if own then Some i else None

-- what the number is mapped to
abbrev pub entry : List ℕ → List (List ℕ) → ℕ → Option ℕ
entry own codes i = or_own (mapped (code_at codes i)) (holds own i) i

-- the entries of the numbers below the watermark
abbrev pub entries : (ℕ → Option ℕ) → ℕ → List (Option ℕ)
entries e watermark = map e (range_with_len 0 watermark)

-- From the watermark on nothing is mapped, and it is at most the number of variables that there can be.
pub record EndsAt (e : ℕ → Option ℕ) (watermark : ℕ) : Type 0 where
  pub above : (i : ℕ) → watermark ≤ i → e i ≡ None
  pub small : watermark ≤ 2 ^ 31

-- all numbers below are mapped to themselves
abbrev pub AreOwnBelow : (ℕ → Option ℕ) → ℕ → Type 0
AreOwnBelow e same = (i : ℕ) → i < same → e i ≡ Some i
