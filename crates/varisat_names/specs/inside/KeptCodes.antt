-- What is kept of a global variable, as a number: the mode, 4 times the unit, and 16, 32 and 64 where the variable is
-- isolated, assumed and not live.
use Rattle.std.specs.Prelude.{ℕ, ◌/◌, ◌%◌, Bool, true, false, Option, Some, None, List, nat_eq, if◌then◌else◌}
use Rattle.varisat_names.specs.declared.variables.data.VarData.{VarData}
use Rattle.varisat_names.specs.declared.variables.data.SamplingMode.{SamplingMode}
use Rattle.varisat_names.specs.declared.variables.data.SamplingMode.TheVariants as sampling

-- the mode of a number
abbrev pub mode_as : ℕ → SamplingMode
mode_as code = if nat_eq code 0 then sampling.Sample else (if nat_eq code 1 then sampling.Witness else sampling.Hide)

-- the value, if any, of a number
abbrev pub unit_as : ℕ → Option Bool
unit_as code = if nat_eq code 0 then None else (if nat_eq code 1 then Some false else Some true)

-- what the number says that is kept
unfoldable pub kept_as : ℕ → VarData
kept_as code = record {
  sampling_mode = mode_as (code % 4);
  unit = unit_as (code / 4 % 4);
  isolated = nat_eq (code / 16 % 2) 1;
  assumed = nat_eq (code / 32 % 2) 1;
  deleted = nat_eq (code / 64 % 2) 1;
}

-- What is kept of each variable, and for how many there is room.
pub record KeptItems : Type 0 where
  pub items : List VarData
  pub capacity : ℕ
