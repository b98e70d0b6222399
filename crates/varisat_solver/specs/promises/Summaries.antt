-- What a solver holds, and which states it represents.
use Rattle.std.specs.Prelude.{◌≤◌, ◌+◌, ◌^◌, ℕ, Option, length}
use Rattle.varisat_prop.specs.View.{View}
use Rattle.varisat_search.specs.declared.state.SatState.{SatState}
use Rattle.varisat_search.specs.AssumptionParts.{AssumptionParts}
use Rattle.varisat_names.specs.promises.Variables.{Tables}
use Rattle.varisat_proof.specs.promises.Calls.{CheckerState}
use Rattle.varisat_proof.specs.promises.Proving.{OpenState}
use Rattle.varisat_solver.specs.promises.States.{Ledger}

-- The maps between names, global variables and solver variables with what is kept of the global variables; the proof that is
-- open and the checker that runs inside; the search with its assumptions and its verdict, and how many words its store of clauses
-- has; what is known of an invalid solver too.
pub record Summary : Type 0 where
  pub tables : Tables
  pub opened : Option OpenState
  pub checker : Option CheckerState
  pub search : View
  pub assumed : AssumptionParts
  pub sat_state : SatState
  pub words : ℕ
  pub ledger : Ledger

-- A clause of all variables of the search, with the three words before its literals, would bring the store to 2^32 words or more.
abbrev pub HasFullStore : Summary → Type 0
HasFullStore g = 2 ^ 32 ≤ g.words + 3 + length g.search.values
