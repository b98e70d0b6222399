-- How a search came on since the last change, over calls of `solve`, and how its steps are counted.
use Rattle.std.specs.Prelude.{◌≡◌, ℕ, ◌+◌, ◌-◌, ◌<◌, ◌≤◌, Bool, List, length, Result}
use Rattle.varisat_theory.specs.promises.Membership.{◌∈◌, IsDistinct}
use Rattle.varisat_theory.specs.promises.CallBounds.{AreFew}
use Rattle.varisat_theory.specs.inside.Rank.{rank, with_units}
use Rattle.varisat_prop.specs.View.{kinds}
use Rattle.varisat_schedule.specs.Plans.{Plan, next_plan, PlannedCall}
use Rattle.varisat_schedule.specs.CallSteps.{HasComeWithout}
use Rattle.varisat_search.specs.declared.context.Context.{Context}
use Rattle.varisat_search.specs.declared.state.SatState.TheVariants as verdict
use Rattle.varisat_search.specs.Contexts.{view}
use Rattle.varisat_search.specs.Decisions.{IsDecidable}
use Rattle.varisat_solver.specs.promises.Budgets.{CountsSteps}
use Rattle.varisat_solver.specs.declared.solver.SolverError.{SolverError}

-- a stretch of steps that begins with the context
abbrev pub call_from : {A : Type 0} → Context A → PlannedCall
call_from x =
    record {
      variables = length x.assignment.current;
      scale = x.solver_config.luby_restart_interval_scale;
      begins =
          x.schedule;
    }

-- The search came here by steps of the schedule at one scale, with as many variables all the time. In between some units left it,
-- and a variable that has left is not decided again: so those units and the trail are together never more than the variables. It
-- is said of all that may be decided, since any of it may come to the trail.
pub record HasComeSince {A : Type 0} (c : PlannedCall) (x : Context A) : Type 0 where
  pub units : ℕ
  pub come : HasComeWithout c x.schedule units (kinds (view x))
  pub scale : c.scale ≡ x.solver_config.luby_restart_interval_scale
  pub variables : c.variables ≡ length x.assignment.current
  pub room : (vs : List ℕ) → IsDistinct vs → ((v : ℕ) → v ∈ vs → IsDecidable (view x) x.vsids v) →
      units + length vs ≤ c.variables

-- Whatever the first context came from, the second has come from there too.
abbrev pub GoesOnSince : {A : Type 0} → Context A → Context A → Type 0
GoesOnSince x y = (c : PlannedCall) → HasComeSince c x → HasComeSince c y

-- A step began at the plan, where units have left the trail, which has these flags now: whatever trail of a greater rank the step
-- comes to, the steps up to its end are counted against that.
abbrev pub HasBegunWithout : PlannedCall → Plan → ℕ → List Bool → Type 0
HasBegunWithout c q units trail =
    (after : List Bool) →
    ((n : ℕ) → c.variables ≤ n → rank n (with_units units trail) < rank n (with_units units after)) →
    units + length after ≤ c.variables →
    HasComeWithout c (next_plan c.scale q) units after

-- The search is inside a step that began at the plan, to which it came as above. Units may have left it since the step began.
pub record HasBegunSince {A : Type 0} (c : PlannedCall) (q : Plan) (x : Context A) : Type 0 where
  pub units : ℕ
  pub begun : HasBegunWithout c q units (kinds (view x))
  pub scale : c.scale ≡ x.solver_config.luby_restart_interval_scale
  pub variables : c.variables ≡ length x.assignment.current
  pub room : (vs : List ℕ) → IsDistinct vs → ((v : ℕ) → v ∈ vs → IsDecidable (view x) x.vsids v) →
      units + length vs ≤ c.variables

-- Wherever the step began inside of which the first context is, the second is inside of it too.
abbrev pub GoesOnWithin : {A : Type 0} → Context A → Context A → Type 0
GoesOnWithin x y = (c : PlannedCall) (q : Plan) → HasBegunSince c q x → HasBegunSince c q y

-- A step began with the first context, and the second is inside of it.
abbrev pub BeginsWithin : {A : Type 0} → Context A → Context A → Type 0
BeginsWithin x y = (c : PlannedCall) → HasComeSince c x → HasBegunSince c x.schedule y

-- What a solver keeps of the steps since its last change, before which `changed_at` steps were made. They are few, for each
-- number that bounds the variables of the search. And as long as no verdict is known the search came from there, so that it can
-- go on.
pub record CountsSince {A : Type 0} (changed_at : ℕ) (x : Context A) : Type 0 where
  pub low : changed_at ≤ x.schedule.steps
  pub few : (n : ℕ) → length x.assignment.current ≤ n → AreFew n (x.schedule.steps - changed_at)
  pub come : x.solver_state.sat_state ≡ verdict.Unknown →
      (c : PlannedCall) × (c.begins.steps ≡ changed_at) × HasComeSince c x

-- Wherever the last change was, the steps since then are counted on.
abbrev pub CountsOnSince : {A : Type 0} → Context A → Context A → Type 0
CountsOnSince x y = (changed_at : ℕ) → CountsSince changed_at x → CountsSince changed_at y

-- How the steps are counted that lead from one context to the other, of which `max_steps` may be made: for each number that
-- bounds the variables of the search, and wherever the last change was.
abbrev pub CountsStepsFrom : {A : Type 0} → ℕ → Context A → Context A → Result Bool SolverError → Type 0
CountsStepsFrom max_steps x y answer =
    (n changed_at : ℕ) → length x.assignment.current ≤ n → CountsSince changed_at x →
    CountsSteps n max_steps (x.schedule.steps - changed_at) x.schedule.steps y.schedule.steps answer
