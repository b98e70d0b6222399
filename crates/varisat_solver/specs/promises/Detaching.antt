-- What becomes of variables whose values are fixed, unless they are assumed: they leave the search. The values are kept, and what
-- has no name may be used again.
use Rattle.std.specs.Prelude.{◌≡◌, ◌≢◌, ◌⊎◌, ℕ, Bool, true, false, not, Option, Some, None, List}
use Rattle.varisat_theory.specs.promises.Membership.{◌∈◌}
use Rattle.varisat_theory.specs.promises.Literals.{Literal, variable_of}
use Rattle.varisat_prop.specs.View.{View, kept}
use Rattle.varisat_search.specs.RootSimplified.{IsRootUnpropagated, fixed_literals}
use Rattle.varisat_names.specs.promises.VarMap.{at}
use Rattle.varisat_names.specs.promises.VarData.{data_at}
use Rattle.varisat_names.specs.promises.Variables.{Tables}
use Rattle.varisat_search.specs.declared.state.SatState.TheVariants as verdict
use Rattle.varisat_solver.specs.promises.Summaries.{Summary}

-- whether a global variable stands there that is not assumed
abbrev pub leads_to_unassumed : Tables → Option ℕ → Bool
leads_to_unassumed t None = false
leads_to_unassumed t (Some x) = not (data_at t.kept x).assumed

-- each literal is of a variable that is assumed, if of any
abbrev pub AreOverAssumed : Tables → List Literal → Type 0
AreOverAssumed t ls = (l : Literal) → l ∈ ls → leads_to_unassumed t (at t.solvers.backward (variable_of l)) ≡ false

-- None is to leave: each literal of level 0 is of a variable that is assumed.
abbrev pub NoneIsToDetach : Tables → View → Type 0
NoneIsToDetach t s = AreOverAssumed t (fixed_literals s)

-- None is to leave, unless at level 0 literals are still to be propagated, with which the next step lets variables leave.
abbrev pub DetachesInTime : Tables → View → Type 0
DetachesInTime t s = NoneIsToDetach t s ⊎ IsRootUnpropagated s

-- Variables go on to leave in time in a valid solver, unless the clauses are refuted.
abbrev pub GoesOnDetaching : Summary → Summary → Type 0
GoesOnDetaching g h = DetachesInTime g.tables g.search → h.ledger.valid ≡ true → h.sat_state ≢ verdict.Unsat →
    DetachesInTime h.tables h.search
