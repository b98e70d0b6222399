-- The values that a model gives the global variables.
use Rattle.std.specs.Prelude.{◌≡◌, ℕ, Bool, if◌then◌else◌, Option, Some, None, List, length, slice_index_or}
use Rattle.varisat_prop.specs.Parts.{is_true_value}
use Rattle.varisat_names.specs.promises.VarMap.{at}
use Rattle.varisat_names.specs.promises.VarData.{data_at}
use Rattle.varisat_names.specs.promises.Variables.{Tables}

-- the value of the solver variable; without one the unit that is kept, and else false
abbrev pub value_or_unit : List (Option Bool) → Option Bool → Option ℕ → Option Bool
value_or_unit values unit None = Some (is_true_value unit)
value_or_unit values unit (Some v) = slice_index_or values v None

-- the value of the global variable, where the solver variables have these: none where it is not live
abbrev pub global_value : Tables → List (Option Bool) → ℕ → Option Bool
global_value t values x =
    if (data_at t.kept x).deleted then None else value_or_unit values (data_at t.kept x).unit (at t.solvers.forward x)

-- The model has the value of each global variable.
pub record IsGlobalModel (t : Tables) (values model : List (Option Bool)) : Type 0 where
  pub count : length model ≡ length t.kept
  pub each : (x : ℕ) → slice_index_or model x None ≡ global_value t values x
