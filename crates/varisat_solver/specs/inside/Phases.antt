-- Phases of variables that are set, and how a search heeds them.
use Rattle.std.specs.Prelude.{◌≡◌, ℕ, Bool, false, Option, Some, None, List, slice_index_or}
use Rattle.varisat_names.specs.promises.Maps.{updated, chain}
use Rattle.varisat_names.specs.promises.VarMap.{at}
use Rattle.varisat_names.specs.promises.Variables.{Tables}
use Rattle.varisat_prop.specs.Parts.{Values}

-- the phase of the name, if one is set
abbrev pub phase_of : List (Option Bool) → ℕ → Option Bool
phase_of phases u = slice_index_or phases u None

-- the phase that is set for the name of the solver variable, if it has a name and there is one
abbrev pub phase_at : Tables → List (Option Bool) → ℕ → Option Bool
phase_at t phases v = chain (chain (at t.solvers.backward) (at t.users.backward)) (phase_of phases) v

-- what a variable with this value had last, once its phase is heeded, if one is set: one that has a value keeps it
abbrev pub last_by : Option Bool → Option Bool → Bool → Bool
last_by (Some value) phase last = last
last_by None (Some b) last = b
last_by None None last = last

-- what was the last value of the variable, as the values say
abbrev pub last_of : Values → ℕ → Bool
last_of x v = slice_index_or x.last v false

-- The phase of the variable is heeded, if one is set, and nothing else changes.
pub record RemembersAt (phase : Option Bool) (v : ℕ) (old new : Values) : Type 0 where
  pub current : new.current ≡ old.current
  pub last : (w : ℕ) →
      last_of new w ≡ updated (last_of old) v (last_by (slice_index_or old.current v None) phase (last_of old v)) w

-- The phases of all solver variables are heeded: one that has no value is as if it had had its phase last. Nothing else changes.
pub record RemembersPhases (t : Tables) (phases : List (Option Bool)) (old new : Values) : Type 0 where
  pub current : new.current ≡ old.current
  pub last : (v : ℕ) →
      last_of new v ≡ last_by (slice_index_or old.current v None) (phase_at t phases v) (last_of old v)
