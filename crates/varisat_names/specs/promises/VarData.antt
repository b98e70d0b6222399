-- What is kept of the global variables.
use Rattle.std.specs.Prelude.{◌≡◌, ℕ, suc, ◌<◌, ◌↔◌, Bool, true, false, None, List, [], ◌∷◌, ◌++◌, length, replicate, max, ◌+◌, ◌-◌, slice_index_or}
use Rattle.std.specs.Ordering.{nat_cmp}
use Rattle.std.specs.BTreeSet.{BTreeSet, contains}
use Rattle.varisat_names.specs.promises.Maps.{updated}
use Rattle.varisat_names.specs.declared.variables.data.VarData.{VarData}
use Rattle.varisat_names.specs.declared.variables.data.SamplingMode.TheVariants as sampling

-- a variable that just came into use, and one that is not live
abbrev pub fresh : VarData
fresh = record { sampling_mode = sampling.Sample; unit = None; isolated = true; assumed = false; deleted = false }

-- what is kept of a variable that is not live and may be used again
abbrev pub dead : VarData
dead = record { sampling_mode = sampling.Hide; unit = None; isolated = true; assumed = false; deleted = true }

-- what is kept of a global variable, also of one that was never made
abbrev pub data_at : List VarData → ℕ → VarData
data_at xs x = slice_index_or xs x dead

-- What is kept of the global variables, for how many there is room, and the list of those that may be used again.
pub record DataList : Type 0 where
  pub kept : List VarData
  pub capacity : ℕ
  pub free : BTreeSet ℕ

-- the set has exactly the global variables that may be used again
abbrev pub AreDeleted : List VarData → BTreeSet ℕ → Type 0
AreDeleted kept free = (x : ℕ) →
    (contains nat_cmp free x ≡ true) ↔ ((x < length kept) × ((data_at kept x).deleted ≡ true))

-- the list with x in it, where each variable that was added is not live
abbrev pub reaching : List VarData → ℕ → List VarData
reaching kept x = kept ++ replicate (x + 1 - length kept) dead

-- the number before the others, unless it is left out
abbrev pub put_unless : Bool → ℕ → List ℕ → List ℕ
put_unless true i is = is
put_unless false i is = i ∷ is

-- the live variables, in increasing order, where the list begins with what is kept of i
abbrev pub live_from : ℕ → List VarData → List ℕ
live_from i [] = []
live_from i (d ∷ ds) = put_unless d.deleted i (live_from (suc i) ds)

-- the list with d at x, and so one that is longer than x
pub record IsDataAt (old : List VarData) (x : ℕ) (d : VarData) (new : List VarData) : Type 0 where
  pub count : length new ≡ max (length old) (x + 1)
  pub at_each : (i : ℕ) → data_at new i ≡ updated (data_at old) x d i

-- the least variable that is not live
abbrev pub IsLeastRetired : List VarData → ℕ → Type 0
IsLeastRetired kept x = ((data_at kept x).deleted ≡ true) × ((y : ℕ) → y < x → (data_at kept y).deleted ≡ false)
