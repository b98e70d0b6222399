-- The context as its view, and what is kept of it between calls.
use Rattle.std.specs.Prelude.{◌≡◌, ◌≢◌, ◌*◌, true, false, length, replicate}
use Rattle.varisat_clause.specs.Databases.{Tracks}
use Rattle.varisat_prop.specs.View.{View, view_of, WellFormed, PropagatedBeforeDecisions}
use Rattle.varisat_prop.specs.Watches.{IsPropagated}
use Rattle.varisat_search.specs.declared.state.SatState.TheVariants as verdict
use Rattle.varisat_search.specs.declared.state.SolverState.{SolverState}
use Rattle.varisat_search.specs.declared.context.Context.{Context}
use Rattle.varisat_search.specs.AssumptionParts.{HasAssumptions}
use Rattle.varisat_search.specs.Decisions.{CanDecide, AreDecidable}

-- the view of the context's parts
abbrev pub view : {A : Type 0} → Context A → View
view c = view_of c.clause_alloc c.binary_clauses c.assignment c.trail c.impl_graph

-- the verdict is not Unsat
abbrev pub IsNotUnsat : {A : Type 0} → Context A → Type 0
IsNotUnsat c = c.solver_state.sat_state ≢ verdict.Unsat

-- the state of a solver without clauses
abbrev pub first_state : SolverState
first_state =
    record { sat_state = verdict.Unknown; formula_is_empty = true; solver_invoked = false; state_is_invalid = false }

-- the schedule stays, and the settings that it goes by
pub record KeepsSchedule {A : Type 0} (old new : Context A) : Type 0 where
  pub schedule : new.schedule ≡ old.schedule
  pub solver_config : new.solver_config ≡ old.solver_config

-- What a search needs in order to go on.
pub record IsReady {A : Type 0} (c : Context A) : Type 0 where
  pub well : WellFormed (view c)
  -- as each level began, propagation had come to its end
  pub settled : PropagatedBeforeDecisions (view c)
  -- and it has come to its end up to the queue's head, and clauses are watched
  pub propagated : IsPropagated c.watchlists (view c)
  -- what is noted of the store's clauses is true of them
  pub tracks : Tracks c.clause_db c.clause_alloc
  -- analysis has room for each variable
  pub analysis : c.analyze_conflict.var_count ≡ length c.assignment.current
  -- there is a flag for each literal, and none is set
  pub flags : c.tmp_flags.flags.items ≡ replicate (2 * length c.assignment.current) false
  -- variables are left to be decided until each literal of a kept clause has a value
  pub decidable : CanDecide (view c) c.vsids
  -- assumptions have the first levels
  pub assumed : HasAssumptions (view c) c.assumptions
  -- and may be decided
  pub assumable : AreDecidable (view c) c.vsids c.assumptions.working
