-- When a search restarts.
use Rattle.std.specs.Prelude.{◌≡◌, ℕ, zero, suc, pred, ◌+◌, ◌-◌, ◌*◌, ◌^◌, ◌<◌, ◌≤◌, ◌↔◌, max, nat_eq, if◌then◌else◌}
use Rattle.varisat_theory.specs.inside.Luby.{luby, saturated, restart_point}
use Rattle.varisat_theory.specs.promises.CallBounds.{CallSetting, call_point}

-- The steps made so far, the number of the step that begins with the next restart, and the index of the term of the Luby sequence
-- by which the restart after it will be later.
pub record Plan : Type 0 where
  pub steps : ℕ
  pub next_restart : ℕ
  pub next_term : ℕ

-- no step was made, and the first begins with a restart
abbrev pub first_plan : Plan
first_plan = record { steps = 0; next_restart = 0; next_term = 1 }

-- What each schedule keeps: the next restart is not behind. It is at least as high as the number of terms used so far, since each
-- of them is 1 at least, and from the third on higher, since that one is 2.
pub record IsPlan (p : Plan) : Type 0 where
  pub ahead : p.steps ≤ p.next_restart
  pub small : p.next_restart < 2 ^ 64
  pub positive : 0 < p.next_term
  pub few : p.next_term ≤ suc p.next_restart
  pub fewer : p.next_term ≤ max 3 p.next_restart

-- the next step begins with a restart
abbrev pub IsDue : Plan → Type 0
IsDue p = p.steps ≡ p.next_restart

-- the plan once a step has begun at a scale: where a restart is due the one after it is computed
abbrev pub step_begun : ℕ → Plan → Plan
step_begun scale p =
    if nat_eq p.steps p.next_restart then record {
      steps = p.steps;
      next_restart = saturated (p.next_restart + saturated (scale * luby p.next_term));
      next_term = suc p.next_term;
    } else p

-- the plan after one step
abbrev pub next_plan : ℕ → Plan → Plan
next_plan scale p = record (step_begun scale p) { steps = suc p.steps }

-- the plan after as many steps at one scale
abbrev pub plan_after : ℕ → Plan → ℕ → Plan
plan_after scale p zero = p
plan_after scale p (suc k) = next_plan scale (plan_after scale p k)

-- A call at one scale, where the search has so many variables and the schedule begins with the plan.
pub record PlannedCall : Type 0 where
  pub variables : ℕ
  pub scale : ℕ
  pub begins : Plan

-- what the steps of the call are counted by
abbrev pub setting_of : PlannedCall → CallSetting
setting_of c =
    record {
      variables = c.variables;
      scale = c.scale;
      first = c.begins.next_restart;
      term =
          pred c.begins.next_term;
      start = c.begins.steps;
    }

-- Whatever the scale was before the call, its steps that begin with a restart are exactly those at the call's restart points.
abbrev pub RestartsAreAtPoints : Type 0
RestartsAreAtPoints =
    (c : PlannedCall) (k : ℕ) → 0 < c.scale → IsPlan c.begins → c.begins.steps + k < 2 ^ 64 - 1 →
    IsDue (plan_after c.scale c.begins k) ↔ ((i : ℕ) × (c.begins.steps + k ≡ call_point (setting_of c) i))

-- from the first plan on these are at 0 and the partial sums of the scale times the terms
abbrev pub FirstRestartsAreAtSums : Type 0
FirstRestartsAreAtSums =
    (scale k : ℕ) → 0 < scale → k < 2 ^ 64 - 1 →
    IsDue (plan_after scale first_plan k) ↔ ((i : ℕ) × (k ≡ restart_point scale i))
