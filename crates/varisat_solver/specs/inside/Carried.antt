-- Literals that are carried along a map of variables.
use Rattle.std.specs.Prelude.{◌≡◌, ℕ, Bool, true, false, not, Option, Some, None, List, map}
use Rattle.varisat_theory.specs.promises.Literals.{Literal, Assignment, variable_of}
use Rattle.varisat_literals.specs.promises.Numbers.{polarity_of}
use Rattle.varisat_names.specs.promises.Maps.{chain}
use Rattle.varisat_names.specs.promises.VarMap.{at}
use Rattle.varisat_names.specs.promises.Variables.{Tables}
use Rattle.varisat_prop.specs.Parts.{is_true_value}
use Rattle.varisat_tracer.specs.promises.Carried.{carry}

-- literals over solver variables, as the user names them
abbrev pub named_literals : Tables → List Literal → List Literal
named_literals t ls = map (carry (chain (at t.solvers.backward) (at t.users.backward))) ls

-- where the map leads, the second assignment has the value that the first has
abbrev pub AgreesAlong : (ℕ → Option ℕ) → Assignment → Assignment → Type 0
AgreesAlong f a b = (v i : ℕ) → f v ≡ Some i → b v ≡ a i

-- a value is there, and makes a literal of this sign true
abbrev pub is_value : Option Bool → Bool → Bool
is_value None b = false
is_value (Some true) b = b
is_value (Some false) b = not b

-- whether the literal is true by the values that are forced
abbrev pub is_forced : (ℕ → Option Bool) → Literal → Bool
is_forced forced l = is_value (forced (variable_of l)) (polarity_of l)

-- the value that was found for the solver variable, and without one the value that is forced, else false
abbrev pub value_or : Option Bool → Assignment → Option ℕ → Bool
value_or unit found None = is_true_value unit
value_or unit found (Some v) = found v
