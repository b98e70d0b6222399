-- Faults of a text, as they are found in it, or since memory runs out.
use Rattle.std.specs.Prelude.{◌≡◌, ◌⊎◌, Result, Ok, Err, MatchResult}
use Rattle.varisat_formula.specs.declared.formula.cnf.FormulaError.{FormulaError}
use Rattle.varisat_formula.specs.declared.formula.cnf.FormulaError.TheVariants as formula
use Rattle.varisat_wcnf.specs.declared.wcnf.WcnfFault.{WcnfFault}
use Rattle.varisat_wcnf.specs.declared.wcnf.WcnfFault.TheVariants.{OutOfMemory, VariableLimit}

-- the fault as which an error of a formula is reported
abbrev pub fault_of_formula : FormulaError → WcnfFault
fault_of_formula formula.Full = VariableLimit
fault_of_formula formula.Memory = OutOfMemory

-- What was to be read is what was read, or the fault that was returned; or memory ran out.
abbrev pub ReadsAs : {X : Type 0} → Result X WcnfFault → Result (Unit {0}) WcnfFault → X → Type 0
ReadsAs expected result read =
    MatchResult result (λ _. expected ≡ Ok read) (λ e. (e ≡ OutOfMemory) ⊎ (expected ≡ Err e))
