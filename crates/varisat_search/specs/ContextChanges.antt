-- What calls do to a whole context.
use Rattle.std.specs.Prelude.{◌≡◌, ℕ, ◌-◌, ◌<◌, ◌≤◌, ◌++◌, Bool, false, Some, None, length, replicate, slice_index_or, Result, MatchBool, MatchResult}
use Rattle.std.specs.Option.{unwrap_or}
use Rattle.varisat_theory.specs.promises.Literals.{Literal, variable_of}
use Rattle.varisat_literals.specs.promises.Numbers.{polarity_of, variable_limit}
use Rattle.varisat_names.specs.declared.config.ConfigError.{ConfigError}
use Rattle.varisat_names.specs.declared.config.SolverConfigUpdate.{SolverConfigUpdate}
use Rattle.varisat_names.specs.promises.Settings.{first_bad, updated_settings}
use Rattle.varisat_prop.specs.Changes.{decided_on}
use Rattle.varisat_vsids.specs.Activities.{raised_to}
use Rattle.varisat_search.specs.declared.context.Context.{Context}
use Rattle.varisat_search.specs.Contexts.{view, IsReady}
use Rattle.varisat_search.specs.Frames.{ChangesLevels}
use Rattle.varisat_search.specs.AssumptionParts.{with_levels_to}
use Rattle.varisat_search.specs.Seen.{search_of}
use Rattle.varisat_search.specs.Steps.{IsCut, Saves, IsFree, IsTotal}
use Rattle.varisat_search.specs.Decisions.{HasActivities, SameDecidable, MakesAvailable, IsNextDecision}

-- The levels above the given one are undone, the values that variables lose are remembered, and these variables become available.
-- Nothing happens where the level isn't below the current one.
pub record BacktracksTo {A : Type 0} (level : ℕ) (old new : Context A) : Type 0 where
  pub same : length old.trail.decisions ≤ level → new ≡ old
  pub cut : level < length old.trail.decisions → IsCut (view old) (view new) level
  pub saved : level < length old.trail.decisions → Saves (view old) level old.assignment.last new.assignment.last
  pub available : level < length old.trail.decisions → MakesAvailable (view old) level old.vsids new.vsids
  pub decidable : SameDecidable (view old) old.vsids (view new) new.vsids
  pub entries : HasActivities (view new) new.vsids
  pub decay : new.vsids.decay ≡ old.vsids.decay
  pub assumptions : level < length old.trail.decisions → new.assumptions ≡ with_levels_to level old.assumptions
  pub kept : ChangesLevels old new

-- The literal is decided, and what is remembered stays.
pub record DecidesLit {A : Type 0} (l : Literal) (old new : Context A) : Type 0 where
  pub level : view new ≡ decided_on (view old) l
  pub last : new.assignment.last ≡ old.assignment.last

-- The variable that is next is decided, as it was last assigned.
abbrev pub DecidesNext : {A : Type 0} → Context A → Context A → Type 0
DecidesNext old new =
    (l : Literal) × IsFree (view old) l × (view new ≡ decided_on (view old) l)
    × (polarity_of l ≡ slice_index_or old.assignment.last (variable_of l) false)
    × IsNextDecision old.assignment.current old.vsids (variable_of l)

-- One is decided; or none is left to decide, and no part but the activities of variables changes.
abbrev pub DecidesIfLeft : {A : Type 0} → Context A → Context A → Bool → Type 0
DecidesIfLeft old new made =
    MatchBool made (DecidesNext old new) ((new ≡ record old { vsids = new.vsids }) × IsTotal (view old))

-- the settings for which there are values are changed, and with them the decays that parts of the search keep a copy of
abbrev pub with_settings : {A : Type 0} → SolverConfigUpdate → Context A → Context A
with_settings update x = record x {
  clause_activity = record x.clause_activity { decay = unwrap_or update.clause_activity_decay x.clause_activity.decay };
  solver_config = updated_settings x.solver_config update;
  vsids = record x.vsids { decay = unwrap_or update.vsids_decay x.vsids.decay };
}

-- Settings are changed, or the first whose value is out of its range is returned, and nothing changes.
abbrev pub ChangesSettings : {A : Type 0} → SolverConfigUpdate → Context A → Context A → Result (Unit {0}) ConfigError →
    Type 0
ChangesSettings update old new r =
    MatchResult r
    (λ _. (first_bad update ≡ None) × (new ≡ with_settings update old))
    (λ error. (first_bad update ≡ Some error.field) × (new ≡ old))

-- The count of variables may be raised to this one.
pub record CanRaise {A : Type 0} (n : ℕ) (x : Context A) : Type 0 where
  pub ready : IsReady x
  pub raised : length x.assignment.current ≤ n
  pub small : n ≤ variable_limit

-- The new variables, up to so many in all, had the value false and are not available.
pub record AddsUnavailable {A : Type 0} (n : ℕ) (old new : Context A) : Type 0 where
  pub last : new.assignment.last ≡ old.assignment.last ++ replicate (n - length old.assignment.current) false
  pub activities : new.vsids ≡ raised_to n old.vsids
  pub decidable : SameDecidable (view old) old.vsids (view new) new.vsids

-- There are so many variables now, and a proof sees the search as it was.
pub record IsRaisedTo {A : Type 0} (n : ℕ) (old new : Context A) : Type 0 where
  pub ready : IsReady new
  pub count : length new.assignment.current ≡ n
  pub seen : search_of (view new) ≡ search_of (view old)
