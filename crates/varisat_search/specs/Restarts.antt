-- What a restart by the schedule does.
use Rattle.std.specs.Prelude.{◌≡◌, ℕ, ◌<◌, ◌≤◌, Bool, List, length, ◌⊎◌}
use Rattle.varisat_prop.specs.View.{View, kinds}
use Rattle.varisat_schedule.specs.Plans.{Plan, IsDue}
use Rattle.varisat_schedule.specs.CallSteps.{AllowsRestart}
use Rattle.varisat_search.specs.Steps.{IsCut, Saves, Remembers}

-- Where a restart is due, or the interval up to the next one is short, one may be made: the decisions above the level are
-- undone, or nothing changes. Lines, bound and verdicts rest on no more than this.
pub record MayRestart (q : Plan) (level : ℕ) (s t : View) : Type 0 where
  pub stays : (AllowsRestart (length s.values) q → ⊥) → t ≡ s
  pub undone : (t ≡ s) ⊎ ((level < length s.decisions) × IsCut s t level)

-- Each restart that is due is made, and no other: all decisions above the level are undone, and else nothing changes.
pub record RestartsIfDue (q : Plan) (level : ℕ) (s t : View) : Type 0 where
  pub stays : (IsDue q → ⊥) → t ≡ s
  pub undecided : length s.decisions ≤ level → t ≡ s
  pub undone : IsDue q → level < length s.decisions → IsCut s t level

-- What the policy makes of restarts: exactly those that are due are made where the setting is 0, and else any that may be.
pub record RestartsByPolicy (glue : ℕ) (q : Plan) (level : ℕ) (s t : View) : Type 0 where
  pub may : MayRestart q level s t
  pub each : glue ≡ 0 → RestartsIfDue q level s t

-- Where decisions above the level are undone, the values that variables lose are saved, and where nothing changes no value is.
pub record SavesUndone (level : ℕ) (s t : View) (old new : List Bool) : Type 0 where
  pub stays : t ≡ s → new ≡ old
  pub saved : level < length s.decisions → IsCut s t level → Saves s level old new

-- Clauses may go or move, and reasons follow them. All else stays, and the trail's rank with it.
pub record KeepsAssignment (s t : View) : Type 0 where
  pub rest : t ≡ record s { clauses = t.clauses; nodes = t.nodes }
  pub kinds_stay : kinds t ≡ kinds s

-- what is remembered over a restart down to the level, where one is made, and over what comes after it
abbrev pub RestartsAndRemembers : ℕ → Plan → ℕ → View → List Bool → List Bool → Type 0
RestartsAndRemembers glue q level s old new =
    (t : View) × (between : List Bool) × RestartsByPolicy glue q level s t × SavesUndone level s t old between
    × Remembers t between new
