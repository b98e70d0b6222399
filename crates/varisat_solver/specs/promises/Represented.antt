-- How a call leads from the states that a solver represents to those after it.
use Rattle.varisat_solver.specs.promises.States.{State}
use Rattle.varisat_solver.specs.promises.Summaries.{Summary}
use Rattle.varisat_solver.specs.inside.Representations.{Represents}

-- From each state that the solver g represents the relation leads to one that it represents as h.
abbrev pub LeadsRepresented : Summary → (State → State → Type 0) → Summary → Type 0
LeadsRepresented g R h = (s : State) → Represents g s → (t : State) × R s t × Represents h t
