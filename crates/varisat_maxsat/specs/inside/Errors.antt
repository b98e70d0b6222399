-- As which errors those of a formula and of a client are returned, and which errors are those of a limit.
use Rattle.std.specs.Prelude.{◌≢◌}
use Rattle.varisat_formula.specs.declared.formula.cnf.FormulaError.{FormulaError}
use Rattle.varisat_formula.specs.declared.formula.cnf.FormulaError.TheVariants as formula
use Rattle.varisat_client.specs.declared.refusal.Refusal.{Refusal}
use Rattle.varisat_client.specs.declared.refusal.Refusal.TheVariants as refusal
use Rattle.varisat_maxsat.specs.declared.refusal.MaxSatError.{MaxSatError}
use Rattle.varisat_maxsat.specs.declared.refusal.MaxSatError.TheVariants.{OutOfMemory, VariableLimit, ClauseStoreFull, CostOverflow, Ended}

-- the error as which one of a formula is returned
abbrev pub error_of_formula : FormulaError → MaxSatError
error_of_formula formula.Full = VariableLimit
error_of_formula formula.Memory = OutOfMemory

-- and a refusal of the client
abbrev pub error_of_refusal : Refusal → MaxSatError
error_of_refusal refusal.OutOfMemory = OutOfMemory
error_of_refusal refusal.VariableLimit = VariableLimit
error_of_refusal refusal.ClauseStoreFull = ClauseStoreFull

-- a limit was met: the error says neither what a solution costs nor that the sink ended the search
abbrev pub IsLimit : MaxSatError → Type 0
IsLimit e = (e ≢ CostOverflow) × (e ≢ Ended)
