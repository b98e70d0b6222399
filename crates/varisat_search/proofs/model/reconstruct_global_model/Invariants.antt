use Rattle.std.proofs.Common.{◌≡◌, ℕ, ◌<◌, Bool, Option, None, List, length, get_or}
use Rattle.varisat_names.specs.promises.Variables.{Tables}
use Rattle.varisat_search.specs.GlobalModels.{global_value}
use Rattle.varisat_search.proofs.model.reconstruct_global_model.Given as goal

-- The values of the global variables in a model, one after the other.

-- The list has the values of the first n global variables.
pub record HasValuesBelow (n : ℕ) (t : Tables) (values model : List (Option Bool)) : Type 0 where
  pub count : length model ≡ n
  pub each : (x : ℕ) → x < n → get_or model x None ≡ global_value t values x

abbrev pub invariant-loop-index : goal.invariant-loop-index
invariant-loop-index g l = HasValuesBelow l.index l.variables l.values l.assignment.items
