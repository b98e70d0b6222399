-- How many steps a call makes by a schedule, against the rank of the trail.
use Rattle.std.specs.Prelude.{◌≡◌, ℕ, suc, ◌+◌, ◌-◌, ◌*◌, ◌^◌, ◌<◌, ◌≤◌, Bool, true, List, ◌++◌, length, replicate, ◌⊎◌}
use Rattle.varisat_theory.specs.inside.Rank.{rank, with_units}
use Rattle.varisat_theory.specs.promises.CallBounds.{AreFew, CallProgress}
use Rattle.varisat_schedule.specs.Plans.{Plan, IsPlan, IsDue, next_plan, plan_after, PlannedCall, setting_of}

-- how many steps lead from one plan to a later one
abbrev pub steps_since : Plan → Plan → ℕ
steps_since p q = q.steps - p.steps

-- A search over n variables may restart at the next step: where a restart is due, or where the next one is due before step
-- 2^(n+1). Then the steps up to it are fewer than that, so that restarts between them cost no more than the rank bounds.
abbrev pub AllowsRestart : ℕ → Plan → Type 0
AllowsRestart n q = IsDue q ⊎ (q.next_restart < 2 ^ suc n)

-- What a step by the plan over so many variables makes of the trail, given by its flags, over each number that its length
-- before does not pass: the rank rises, or it is above 0 where the step may begin with a restart.
pub record IsPlannedStep (variables : ℕ) (q : Plan) (before after : List Bool) : Type 0 where
  pub rises : (AllowsRestart variables q → ⊥) → (n : ℕ) → length before ≤ n → rank n before < rank n after
  pub restarts : AllowsRestart variables q → (n : ℕ) → length before ≤ n → 0 < rank n after

-- The call came to the plan, and its steps are counted against the rank of the trail now, over each number that bounds the
-- variables.
pub record HasComeTo (c : PlannedCall) (q : Plan) (trail : List Bool) : Type 0 where
  pub is_plan : IsPlan c.begins
  pub counted : c.begins.steps ≤ q.steps
  pub plan : q ≡ plan_after c.scale c.begins (steps_since c.begins q)
  pub progress : (n : ℕ) → c.variables ≤ n →
      CallProgress (setting_of (record c { variables = n })) (steps_since c.begins q) (rank n trail)

-- The same where units may leave the trail: the steps of several calls in turn are counted as those of one, and the units that
-- left stand in front of the trail as implied literals. The trail that is left has these flags, and with the units it is no
-- longer than there are variables.
pub record HasComeWithout (c : PlannedCall) (q : Plan) (units : ℕ) (trail : List Bool) : Type 0 where
  pub come : HasComeTo c q (with_units units trail)
  pub short : units + length trail ≤ c.variables

-- counting may begin at any moment, when no unit has left
abbrev pub BeginsAnywhere : Type 0
BeginsAnywhere =
    (c : PlannedCall) (trail : List Bool) →
    IsPlan c.begins →
    length trail ≤ c.variables →
    HasComeWithout c c.begins 0 trail

-- each step is counted where units have left
abbrev pub GoesOnWithout : Type 0
GoesOnWithout =
    (c : PlannedCall) (q : Plan) (units : ℕ) (before after : List Bool) →
    0 < c.scale →
    q.steps < 2 ^ 64 - 1 →
    IsPlannedStep c.variables q before after →
    units + length after ≤ c.variables →
    HasComeWithout c q units before →
    HasComeWithout c (next_plan c.scale q) units after

-- between steps literals may join the trail, as in propagation before a step
abbrev pub TrailMayGrow : Type 0
TrailMayGrow =
    (c : PlannedCall) (q : Plan) (units : ℕ) (trail more : List Bool) →
    units + length (trail ++ more) ≤ c.variables →
    HasComeWithout c q units trail →
    HasComeWithout c q units (trail ++ more)

-- and where all literals of the trail are implied, some may leave it
abbrev pub UnitsMayLeave : Type 0
UnitsMayLeave =
    (c : PlannedCall) (q : Plan) (units left stay : ℕ) →
    HasComeWithout c q units (replicate (left + stay) true) →
    HasComeWithout c q (units + left) (replicate stay true)

-- so over however many calls few steps are made, even with one step more
abbrev pub IsShortWithout : Type 0
IsShortWithout =
    (c : PlannedCall) (q : Plan) (units : ℕ) (trail : List Bool) (n : ℕ) →
    0 < c.scale →
    c.variables ≤ n →
    HasComeWithout c q units trail →
    AreFew n (suc (steps_since c.begins q))

-- as many steps were made since the first plan as a call may make, or no more can be counted
abbrev pub AreSpent : ℕ → Plan → Plan → Type 0
AreSpent max_steps p q = (steps_since p q ≡ max_steps) ⊎ (q.steps ≡ 2 ^ 64 - 1)

-- a budget of 2^(2n+3) steps, with room for as many in the count, is never spent
abbrev pub LargeBudgetIsNotSpent : Type 0
LargeBudgetIsNotSpent =
    (n max_steps : ℕ) (p q : Plan) →
    steps_since p q < 2 ^ (2 * n + 3) →
    2 ^ (2 * n + 3) ≤ max_steps →
    p.steps + 2 ^ (2 * n + 3) < 2 ^ 64 →
    AreSpent max_steps p q →
    ⊥
