-- The settings of a solver, their ranges, and what an update does to them.
use Rattle.std.specs.Prelude.{◌≡◌, ℕ, ◌-◌, ◌^◌, ◌≤◌, Bool, true, false, ◌&&◌, nat_le, Option, Some, None, List, [], ◌∷◌, codes, Result, MatchResult}
use Rattle.std.specs.Option.{unwrap_or}
use Rattle.varisat_names.specs.declared.config.SolverConfigUpdate.{SolverConfigUpdate}
use Rattle.varisat_names.specs.declared.config.ConfigError.{ConfigError}
use Rattle.varisat_names.specs.declared.config.ConfigField.{ConfigField}
use Rattle.varisat_names.specs.declared.config.ConfigField.TheVariants.{VsidsDecay, ClauseActivityDecay, ReduceLocalsInterval, ReduceMidsInterval, LubyRestartIntervalScale, RestartGlue, MaxSteps}

-- Decays are in thousandths, intervals in steps, `restart_glue` in hundredths. `max_steps` is for one call of `solve`.
pub record Settings : Type 0 where
  pub vsids_decay : ℕ
  pub clause_activity_decay : ℕ
  pub reduce_locals_interval : ℕ
  pub reduce_mids_interval : ℕ
  pub luby_restart_interval_scale : ℕ
  pub restart_glue : ℕ
  pub max_steps : ℕ

-- the settings of a new solver
abbrev pub default_settings : Settings
default_settings = record {
  vsids_decay = 950;
  clause_activity_decay = 999;
  reduce_locals_interval = 15000;
  reduce_mids_interval = 10000;
  luby_restart_interval_scale = 128;
  restart_glue = 0;
  max_steps = 2 ^ 64 - 1;
}

-- the least and the greatest value of a setting
abbrev pub least_value : ConfigField → ℕ
least_value VsidsDecay = 500
least_value ClauseActivityDecay = 500
least_value ReduceLocalsInterval = 1
least_value ReduceMidsInterval = 1
least_value LubyRestartIntervalScale = 1
least_value RestartGlue = 0
least_value MaxSteps = 0

-- the greatest value of each setting
abbrev pub greatest_value : ConfigField → ℕ
greatest_value VsidsDecay = 999
greatest_value ClauseActivityDecay = 999
greatest_value ReduceLocalsInterval = 2 ^ 64 - 1
greatest_value ReduceMidsInterval = 2 ^ 64 - 1
greatest_value LubyRestartIntervalScale = 2 ^ 64 - 1
greatest_value RestartGlue = 1000
greatest_value MaxSteps = 2 ^ 64 - 1

-- each setting is within its range
pub record AreSettingsInRange (s : Settings) : Type 0 where
  pub vsids_decay : (least_value VsidsDecay ≤ s.vsids_decay) × (s.vsids_decay ≤ greatest_value VsidsDecay)
  pub clause_activity_decay : (least_value ClauseActivityDecay ≤ s.clause_activity_decay)
      × (s.clause_activity_decay ≤ greatest_value ClauseActivityDecay)
  pub reduce_locals_interval : least_value ReduceLocalsInterval ≤ s.reduce_locals_interval
  pub reduce_mids_interval : least_value ReduceMidsInterval ≤ s.reduce_mids_interval
  pub luby_restart_interval_scale : least_value LubyRestartIntervalScale ≤ s.luby_restart_interval_scale
  pub restart_glue : s.restart_glue ≤ greatest_value RestartGlue

-- the text of a setting's name
abbrev pub field_text : ConfigField → List ℕ
field_text VsidsDecay = codes "vsids_decay"
field_text ClauseActivityDecay = codes "clause_activity_decay"
field_text ReduceLocalsInterval = codes "reduce_locals_interval"
field_text ReduceMidsInterval = codes "reduce_mids_interval"
field_text LubyRestartIntervalScale = codes "luby_restart_interval_scale"
field_text RestartGlue = codes "restart_glue"
field_text MaxSteps = codes "max_steps"

-- an update that changes nothing, and one that changes one setting
abbrev pub no_update : SolverConfigUpdate
no_update =
    record {
      vsids_decay = None;
      clause_activity_decay = None;
      reduce_locals_interval = None;
      reduce_mids_interval = None;
      luby_restart_interval_scale = None;
      restart_glue = None;
      max_steps = None;
    }

-- the update that sets this one alone
abbrev pub update_of : ConfigField → ℕ → SolverConfigUpdate
update_of VsidsDecay x = record no_update { vsids_decay = Some x }
update_of ClauseActivityDecay x = record no_update { clause_activity_decay = Some x }
update_of ReduceLocalsInterval x = record no_update { reduce_locals_interval = Some x }
update_of ReduceMidsInterval x = record no_update { reduce_mids_interval = Some x }
update_of LubyRestartIntervalScale x = record no_update { luby_restart_interval_scale = Some x }
update_of RestartGlue x = record no_update { restart_glue = Some x }
update_of MaxSteps x = record no_update { max_steps = Some x }

-- no value is given for the setting, or one within its range
abbrev pub may_take : ConfigField → Option ℕ → Bool
may_take f None = true
may_take f (Some x) = nat_le (least_value f) x && nat_le x (greatest_value f)

-- the first setting whose test fails
abbrev pub first_refused : List (ConfigField × Bool) → Option ConfigField
first_refused [] = None
first_refused ((f, true) ∷ tests) = first_refused tests
first_refused ((f, false) ∷ tests) = Some f

-- The first setting that the update would put out of its range, in the order of the settings. The last one takes any value.
abbrev pub first_bad : SolverConfigUpdate → Option ConfigField
first_bad u =
    first_refused
    ((VsidsDecay, may_take VsidsDecay u.vsids_decay) ∷
    (ClauseActivityDecay, may_take ClauseActivityDecay u.clause_activity_decay) ∷
    (ReduceLocalsInterval, may_take ReduceLocalsInterval u.reduce_locals_interval) ∷
    (ReduceMidsInterval, may_take ReduceMidsInterval u.reduce_mids_interval) ∷
    (LubyRestartIntervalScale, may_take LubyRestartIntervalScale u.luby_restart_interval_scale) ∷
    (RestartGlue, may_take RestartGlue u.restart_glue) ∷ [])

-- the settings that the update gives, and else the old ones
abbrev pub updated_settings : Settings → SolverConfigUpdate → Settings
updated_settings s u = record {
  vsids_decay = unwrap_or u.vsids_decay s.vsids_decay;
  clause_activity_decay = unwrap_or u.clause_activity_decay s.clause_activity_decay;
  reduce_locals_interval = unwrap_or u.reduce_locals_interval s.reduce_locals_interval;
  reduce_mids_interval = unwrap_or u.reduce_mids_interval s.reduce_mids_interval;
  luby_restart_interval_scale = unwrap_or u.luby_restart_interval_scale s.luby_restart_interval_scale;
  restart_glue = unwrap_or u.restart_glue s.restart_glue;
  max_steps = unwrap_or u.max_steps s.max_steps;
}

-- The settings are changed as the update says; or a value would be out of its range, the first such setting is returned, and nothing changes.
abbrev pub AppliesUpdate : SolverConfigUpdate → Settings → Result (Unit {0}) ConfigError → Settings → Type 0
AppliesUpdate u old result new = MatchResult result
    (λ _. (first_bad u ≡ None) × (new ≡ updated_settings old u))
    (λ error. (first_bad u ≡ Some error.field) × (new ≡ old))
