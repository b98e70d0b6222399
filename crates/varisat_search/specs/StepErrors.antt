-- Why a step failed, and when the clause store is full.
use Rattle.std.specs.Prelude.{◌≡◌, ℕ, ◌+◌, ◌^◌, ◌≤◌, length, Result, IfErr}
use Rattle.varisat_clause.specs.declared.alloc.StoreError.{StoreError}
use Rattle.varisat_clause.specs.declared.alloc.StoreError.TheVariants as store
use Rattle.varisat_steps.specs.declared.tracer.TraceError.{TraceError}
use Rattle.varisat_steps.specs.declared.tracer.TraceError.TheVariants as trace
use Rattle.varisat_search.specs.declared.error.StepError.{StepError}
use Rattle.varisat_search.specs.declared.error.StepError.TheVariants as step
use Rattle.varisat_search.specs.declared.context.Context.{Context}
use Rattle.varisat_search.specs.Contexts.{KeepsSchedule}

-- the error of a step whose clause was not stored
abbrev pub step_error_of_store : StoreError → StepError
step_error_of_store store.Full = step.Full
step_error_of_store store.Memory = step.Memory

-- the error of a step whose line the tracer did not take
abbrev pub step_error_of_trace : TraceError → StepError
step_error_of_trace trace.Memory = step.Memory
step_error_of_trace (trace.Target cause) = step.Target cause

-- how many faults at the tracer's target the error of a step stands for
abbrev pub step_faults : StepError → ℕ
step_faults step.Full = 0
step_faults step.Memory = 0
step_faults (step.Target cause) = 1

-- A clause of so many literals, with the three words before them, would bring the store to 2^32 words or more; values stayed.
abbrev pub RefusesStoring : {A : Type 0} → ℕ → Context A → Context A → Type 0
RefusesStoring n x y = (2 ^ 32 ≤ length y.clause_alloc.words + 3 + n) × (y.assignment.current ≡ x.assignment.current)

-- A clause of all variables, with the three words before its literals, would bring the store to 2^32 words or more.
abbrev pub HasNoRoom : {A : Type 0} → Context A → Type 0
HasNoRoom x = 2 ^ 32 ≤ length x.clause_alloc.words + 3 + length x.assignment.current

-- However a step or the loading of a clause ends, the schedule stays. It says that the store is full only where that has no
-- room for a clause of all variables, and then there are as many variables as before.
pub record EndsStep {A : Type 0} (r : Result (Unit {0}) StepError) (x y : Context A) : Type 0 where
  pub schedule : KeepsSchedule x y
  pub full : IfErr r
      (λ error. error ≡ step.Full → HasNoRoom y × (length y.assignment.current ≡ length x.assignment.current))
