-- A model and a core as they are handed out.
use Rattle.std.specs.Prelude.{ℕ, List, Option, Some, None, Result, Ok, Err, Vec}
use Rattle.std.specs.Borrow.{Bor}
use Rattle.std.specs.declared.alloc.AllocError.{AllocError}
use Rattle.varisat_theory.specs.promises.Literals.{Literal}
use Rattle.varisat_solver.specs.declared.solver.SolverError.{SolverError}

-- the literals of a list that was made
abbrev pub returned_list : {A : Type 0} → Result (Option (Vec Literal A)) AllocError →
    Result (Option (List Literal)) AllocError
returned_list (Ok None) = Ok None
returned_list (Ok (Some v)) = Ok (Some v.items)
returned_list (Err e) = Err e

-- the literals of a list that is lent
abbrev pub lent_list : Option (Bor (List Literal)) → Option (List Literal)
lent_list None = None
lent_list (Some list) = Some list.now

-- the variables of a list that was made
abbrev pub returned_variables : {A : Type 0} → Result (Vec ℕ A) SolverError → Result (List ℕ) SolverError
returned_variables (Ok v) = Ok v.items
returned_variables (Err e) = Err e
