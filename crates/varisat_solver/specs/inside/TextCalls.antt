-- How clauses of a text are taken.
use Rattle.std.specs.Prelude.{◌≡◌, List, Result, Err}
use Rattle.varisat_theory.specs.promises.Literals.{Clause}
use Rattle.varisat_solver.specs.promises.Calls.{by_state}
use Rattle.varisat_solver.specs.promises.Additions.{AddsAll}
use Rattle.varisat_solver.specs.promises.Summaries.{Summary, HasFullStore}
use Rattle.varisat_solver.specs.promises.Represented.{LeadsRepresented}
use Rattle.varisat_solver.specs.promises.Targets.{WritesOn}
use Rattle.varisat_solver.specs.declared.solver.SolverError.{SolverError}
use Rattle.varisat_solver.specs.declared.solver.SolverError.TheVariants.{ClauseStoreFull}

-- a solver takes the clauses in turn, up to the first refusal
pub record TakesClauses (g : Summary) (clauses : List Clause) (r : Result (Unit {0}) SolverError)
    (h : Summary) : Type 0 where
  pub target : WritesOn g.opened r h.opened
  pub full : r ≡ Err ClauseStoreFull → HasFullStore h
  pub call : LeadsRepresented g (λ s t. AddsAll by_state s clauses r t) h
