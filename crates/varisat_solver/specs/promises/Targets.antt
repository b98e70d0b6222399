-- What a call makes of the target of an open proof.
use Rattle.std.specs.Prelude.{ℕ, List, Option, Result, Ok, Err}
use Rattle.varisat_theory.specs.promises.Journals.{Entry}
use Rattle.varisat_proof.specs.promises.Proving.{OpenState, IsWrittenIf, IsBegunIf, logged}
use Rattle.varisat_solver.specs.promises.Refusals.{returned_faults}
use Rattle.varisat_solver.specs.declared.solver.SolverError.{SolverError}

-- The target took the lines of some entries behind what it had taken, and counted no fault.
abbrev pub WritesAll : Option OpenState → Option OpenState → Type 0
WritesAll p q = (entries : List Entry) × IsWrittenIf p (logged entries) q

-- It took a beginning of them, and counted so many faults. Where no proof is open there are none.
abbrev pub WritesUpTo : ℕ → Option OpenState → Option OpenState → Type 0
WritesUpTo faults p q = (entries : List Entry) × IsBegunIf p (logged entries) faults q

-- What a call writes, by its answer: a refusal comes with one fault of the target where it stands for one, and else with none.
abbrev pub WritesOn : {X : Type 0} → Option OpenState → Result X SolverError → Option OpenState → Type 0
WritesOn p (Ok x) q = WritesAll p q
WritesOn p (Err e) q = WritesUpTo (returned_faults e) p q
