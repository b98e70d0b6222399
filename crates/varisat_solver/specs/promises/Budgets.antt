-- How many steps a call of `solve` makes.
use Rattle.std.specs.Prelude.{◌≡◌, ℕ, ◌+◌, ◌-◌, ◌^◌, ◌<◌, ◌≤◌, Bool, Option, Some, None, ◌⊎◌, Result, Ok, Err}
use Rattle.varisat_theory.specs.promises.CallBounds.{AreFew}
use Rattle.varisat_search.specs.declared.error.StepError.{StepError}
use Rattle.varisat_solver.specs.declared.solver.SolverError.{SolverError}
use Rattle.varisat_solver.specs.declared.solver.SolverError.TheVariants.{Interrupted}
use Rattle.varisat_solver.specs.promises.Refusals.{step_refusal}

-- What the call returns where the search found a verdict or none, or came to no end.
abbrev pub returned_verdict : Result (Option Bool) StepError → Result Bool SolverError
returned_verdict (Ok (Some b)) = Ok b
returned_verdict (Ok None) = Err Interrupted
returned_verdict (Err e) = Err (step_refusal e)

-- How the call counts its steps that begins with the verdict Unknown, where n variables are counted and it may make `max_steps`
-- of them. Since the last change `since` were made before it.
pub record CountsSteps (n max_steps since before after : ℕ) (answer : Result Bool SolverError) : Type 0 where
  pub made : ℕ
  pub count : after ≡ before + made
  pub budget : made ≤ max_steps
  -- all calls since then make few steps together
  pub bounded : AreFew n (since + made)
  -- a verdict takes a step at least
  pub found : (b : Bool) → answer ≡ Ok b → 0 < made
  -- the call is interrupted only where the steps are spent: it made all that it may, or no more can be counted
  pub spent : answer ≡ Err Interrupted → (made ≡ max_steps) ⊎ (after ≡ 2 ^ 64 - 1)
