-- The numbers under which the refusals are returned, and the refusals of a step and of a text.
use Rattle.std.specs.Prelude.{◌≡◌, ◌≢◌, ◌⊎◌, ℕ}
use Rattle.varisat_formula.specs.declared.dimacs.error.DimacsError.{DimacsError}
use Rattle.varisat_formula.specs.declared.dimacs.error.DimacsErrorKind.TheVariants as kind
use Rattle.varisat_search.specs.declared.error.StepError.{StepError}
use Rattle.varisat_search.specs.declared.error.StepError.TheVariants as step
use Rattle.varisat_solver.specs.declared.solver.SolverError.{SolverError}
use Rattle.varisat_solver.specs.declared.solver.SolverError.TheVariants.{Interrupted, ProofIoError, OutOfMemory, Invalid, ClauseStoreFull, WitnessVar, VariableLimit, AssumedVar, ClauseAfterSolve, ProofOpen, ProofTooLate, ConfigOutOfRange, Dimacs}

-- the number under which a refusal is returned
abbrev pub refusal_number : SolverError → ℕ
refusal_number Interrupted = 1
refusal_number (ProofIoError cause) = 2
refusal_number OutOfMemory = 3
refusal_number Invalid = 4
refusal_number ClauseStoreFull = 5
refusal_number (WitnessVar var) = 6
refusal_number VariableLimit = 7
refusal_number (AssumedVar var) = 8
refusal_number ClauseAfterSolve = 9
refusal_number ProofOpen = 10
refusal_number ProofTooLate = 11
refusal_number (ConfigOutOfRange field) = 12
refusal_number (Dimacs cause) = 13

-- the refusal that says why a step came to no end
abbrev pub step_refusal : StepError → SolverError
step_refusal step.Full = ClauseStoreFull
step_refusal step.Memory = OutOfMemory
step_refusal (step.Target cause) = ProofIoError cause

-- the refusal for a fault of a text: memory that ran out in the reader is returned as in any call
abbrev pub IsRefusedText : DimacsError → SolverError → Type 0
IsRefusedText fault e =
    ((fault.kind ≡ kind.OutOfMemory) × (e ≡ OutOfMemory)) ⊎ ((fault.kind ≢ kind.OutOfMemory) × (e ≡ Dimacs fault))

-- how many faults of a proof's target the refusal has
abbrev pub returned_faults : SolverError → ℕ
returned_faults (ProofIoError cause) = 1
returned_faults _ = 0
