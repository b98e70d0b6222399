-- How calls add lists and texts of clauses to a state.
use Rattle.std.specs.Prelude.{List, Result}
use Rattle.varisat_theory.specs.promises.Literals.{Clause}
use Rattle.varisat_formula.specs.promises.Streams.{Input}
use Rattle.varisat_solver.specs.promises.States.{State}
use Rattle.varisat_solver.specs.promises.Calls.{by_state}
use Rattle.varisat_solver.specs.promises.Additions as additions
use Rattle.varisat_solver.specs.declared.solver.SolverError.{SolverError}

-- the clauses of a formula in turn, up to the first refusal; an invalid solver refuses an empty one too
abbrev pub AddsFormula : State → List Clause → Result (Unit {0}) SolverError → State → Type 0
AddsFormula s P r t = additions.AddsList by_state s P r t

-- the clauses of the text that the source gives, up to the first refusal or fault; those before it stay
abbrev pub AddsDimacs : State → Input → Result (Unit {0}) SolverError → Input → State → Type 0
AddsDimacs s old r new t = additions.AddsText by_state s old r new t
