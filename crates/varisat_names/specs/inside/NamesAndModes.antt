-- What the calls that bring names into use and set modes do to the tables of the variables.
use Rattle.std.specs.Prelude.{◌≡◌, ◌≢◌, ℕ, true, false, Option, Some, None, List, [], ◌∷◌, ◌++◌}
use Rattle.varisat_names.specs.promises.VarMap.{at, IsLeastUnmapped}
use Rattle.varisat_names.specs.promises.VarData.{data_at}
use Rattle.varisat_names.specs.promises.Variables.{Tables, IsGiven, IsChangedTo, IsHidden, IsShown}
use Rattle.varisat_names.specs.declared.variables.data.SamplingMode.{SamplingMode}
use Rattle.varisat_names.specs.declared.variables.data.SamplingMode.TheVariants as sampling

-- The least free name came into use.
pub record IsLeastGiven (old new : Tables) (u : ℕ) : Type 0 where
  pub least : IsLeastUnmapped old.users.forward u
  pub global : ℕ
  pub given : IsGiven old new u global

-- A variable with this name, or with none, loses its name or gets one as its mode is set.
abbrev pub MovesName : SamplingMode → Option ℕ → Type 0
MovesName mode None = mode ≢ sampling.Hide
MovesName mode (Some u) = mode ≡ sampling.Hide

-- The mode of the variable x was set: as `Hide` its name, if it has one, is free; as another mode it has the least free name, if
-- it had none, and that is returned.
pub data SetsModeOf (x : ℕ) (mode : SamplingMode) (old new : Tables) (returned : Option ℕ) : Type 0 where
  LosesName : (u : ℕ) → mode ≡ sampling.Hide → at old.users.backward x ≡ Some u → IsHidden old new u x →
      returned ≡ None → SetsModeOf x mode old new returned
  GetsName : (u : ℕ) → mode ≢ sampling.Hide → at old.users.backward x ≡ None → IsShown old new x mode u →
      returned ≡ Some u → SetsModeOf x mode old new returned
  OtherwiseSet : (MovesName mode (at old.users.backward x) → ⊥) →
      IsChangedTo old new x (record (data_at old.kept x) { sampling_mode = mode }) →
      returned ≡ None → SetsModeOf x mode old new returned

-- Hidden variables came back as witnesses in turn, under these names.
abbrev pub AreShownInTurn : List ℕ → Tables → Tables → Type 0
AreShownInTurn [] old new = new ≡ old
AreShownInTurn (u ∷ us) old new =
    (mid : Tables) × (x : ℕ) × ((data_at old.kept x).deleted ≡ false) × (at old.users.backward x ≡ None)
    × IsShown old mid x sampling.Witness u
    × AreShownInTurn us mid new

-- All hidden variables came back in turn under these names: each live variable has a name.
pub record ShowsAllHidden (us : List ℕ) (old new : Tables) : Type 0 where
  pub in_turn : AreShownInTurn us old new
  pub all : (x : ℕ) → at new.users.backward x ≡ None → (data_at new.kept x).deleted ≡ true

-- The variable came back, if it was hidden, and its name joined the list.
pub data ShowsOne (x : ℕ) (us vs : List ℕ) (old new : Tables) : Type 0 where
  Passed : (at old.users.backward x ≡ None → (data_at old.kept x).deleted ≡ true) → new ≡ old → vs ≡ us →
      ShowsOne x us vs old new
  Shown : (u : ℕ) → (data_at old.kept x).deleted ≡ false → at old.users.backward x ≡ None →
      IsShown old new x sampling.Witness u →
      vs ≡ us ++ u ∷ [] → ShowsOne x us vs old new
