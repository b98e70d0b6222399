-- As what a client returns an error of the solver.
use Rattle.varisat_solver.specs.declared.solver.SolverError.{SolverError}
use Rattle.varisat_solver.specs.declared.solver.SolverError.TheVariants as error
use Rattle.varisat_client.specs.declared.refusal.Refusal.{Refusal}
use Rattle.varisat_client.specs.declared.refusal.Refusal.TheVariants.{OutOfMemory, VariableLimit, ClauseStoreFull}

-- the reason as which an error is returned
abbrev pub refusal_for : SolverError → Refusal
refusal_for error.VariableLimit = VariableLimit
refusal_for error.ClauseStoreFull = ClauseStoreFull
refusal_for _ = OutOfMemory

-- the same where no variable is past the limit
abbrev pub store_refusal_for : SolverError → Refusal
store_refusal_for error.ClauseStoreFull = ClauseStoreFull
store_refusal_for _ = OutOfMemory
