-- How a call begins that changes a solver, and how it ends.
use Rattle.std.specs.Prelude.{◌≡◌, ℕ, Bool, true, false, Result, Ok, Err}
use Rattle.varisat_schedule.specs.Plans.{IsPlan}
use Rattle.varisat_search.specs.declared.context.Context.{Context}
use Rattle.varisat_solver.specs.declared.solver.SolverError.{SolverError}
use Rattle.varisat_solver.specs.declared.solver.SolverError.TheVariants.{Invalid, ProofIoError}
use Rattle.std.specs.declared.io.Error.{Error}
use Rattle.varisat_proof.specs.promises.Proving.{marked_searched, Flushes}
use Rattle.varisat_solver.specs.promises.Summaries.{Summary}

-- A call is refused just where the solver is invalid.
abbrev pub RefusesInvalid : Bool → Result (Unit {0}) SolverError → Type 0
RefusesInvalid is_invalid (Ok _) = is_invalid ≡ false
RefusesInvalid is_invalid (Err error) = (error ≡ Invalid) × (is_invalid ≡ true)

-- the search of a solver that is invalid from here on
abbrev pub invalidated : {A : Type 0} → Context A → Context A
invalidated x = record x { solver_state = record x.solver_state { state_is_invalid = true } }

-- The search is as it was, and steps are counted anew from here on.
pub record CountsAnew {A : Type 0} (x y : Context A) (changed_at : ℕ) : Type 0 where
  pub same : y ≡ x
  pub steps : changed_at ≡ x.schedule.steps
  pub plan : IsPlan x.schedule

-- A change came to a value, and steps are counted anew; or it failed, and the solver is invalid. The result says in which way it failed.
abbrev pub EndsChange : {A T E : Type 0} → (E → SolverError → Type 0) → Result T E → Context A → ℕ →
    Result T SolverError → Context A → ℕ → Type 0
EndsChange logs outcome x before (Ok value) y changed_at = (outcome ≡ Ok value) × CountsAnew x y changed_at
EndsChange {E = E} logs outcome x before (Err refusal) y changed_at =
    (error : E) × (outcome ≡ Err error) × logs error refusal × (y ≡ invalidated x) × (changed_at ≡ before)

-- A search ends in a valid solver: an open proof is one under which `solve` was called. Where it can't be flushed the solver is invalid.
abbrev pub EndsSearch : Summary → Result (Unit {0}) SolverError → Summary → Type 0
EndsSearch g (Ok _) h = h ≡ record g { opened = marked_searched g.opened }
EndsSearch g (Err (ProofIoError cause)) h =
    Flushes {E = Error} (marked_searched g.opened) (Err cause) h.opened
    × (h ≡ record g { opened = h.opened; ledger = record g.ledger { valid = false } })
EndsSearch g (Err _) h = ⊥
