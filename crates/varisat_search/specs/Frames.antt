-- What the functions of a search leave as it was.
use Rattle.std.specs.Prelude.{◌≡◌, ℕ, Bool, false, List, length, Result, OnOk, MatchResult}
use Rattle.varisat_prop.specs.Leaving.{cleared}
use Rattle.varisat_schedule.specs.Plans.{Plan, step_begun, next_plan}
use Rattle.varisat_search.specs.declared.context.Context.{Context}
use Rattle.varisat_search.specs.Contexts.{view, KeepsSchedule}
use Rattle.varisat_search.specs.Forgotten.{forgotten_activities}
use Rattle.varisat_search.specs.Decisions.{SameDecidable, SameDecidableBut}

-- It holds; or the call failed, and nothing changed.
abbrev pub HoldsOrUnchanged : {R E X : Type 0} → Result R E → Type 0 → X → X → Type 0
HoldsOrUnchanged r P x y = MatchResult r (λ _. P) (λ _. y ≡ x)

-- 1. Frames: no parts change but those that are named. The counters may change in each of these, so that a function which counts
-- has no clause more. A frame is an equation, by which a field that it does not name is read off.

-- the parts that have something for each variable or literal
abbrev pub ChangesVariables : {A : Type 0} → Context A → Context A → Type 0
ChangesVariables x y = y ≡ record x {
  analyze_conflict = y.analyze_conflict;
  assignment = y.assignment;
  binary_clauses = y.binary_clauses;
  counters = y.counters;
  impl_graph = y.impl_graph;
  tmp_flags = y.tmp_flags;
  vsids = y.vsids;
  watchlists = y.watchlists;
}

-- the trail, the values of its literals and their reasons
abbrev pub ChangesTrail : {A : Type 0} → Context A → Context A → Type 0
ChangesTrail x y =
    y ≡ record x { assignment = y.assignment; counters = y.counters; impl_graph = y.impl_graph; trail = y.trail }

-- these, and which variables are available
abbrev pub ChangesDecisions : {A : Type 0} → Context A → Context A → Type 0
ChangesDecisions x y =
    y
    ≡ record x {
      assignment = y.assignment;
      counters = y.counters;
      impl_graph = y.impl_graph;
      trail = y.trail;
      vsids =
          y.vsids;
    }

-- these, and how many assumptions have a level
abbrev pub ChangesDecided : {A : Type 0} → Context A → Context A → Type 0
ChangesDecided x y = y ≡ record x {
  assignment = y.assignment;
  assumptions = y.assumptions;
  counters = y.counters;
  impl_graph = y.impl_graph;
  trail = y.trail;
  vsids = y.vsids;
}

-- the trail, assumptions among its decisions, and the flags by which a core is found
abbrev pub ChangesAssumed : {A : Type 0} → Context A → Context A → Type 0
ChangesAssumed x y = y ≡ record x {
  assignment = y.assignment;
  assumptions = y.assumptions;
  counters = y.counters;
  impl_graph = y.impl_graph;
  tmp_flags = y.tmp_flags;
  trail = y.trail;
}

-- levels are undone
abbrev pub ChangesLevels : {A : Type 0} → Context A → Context A → Type 0
ChangesLevels x y =
    y
    ≡ record x {
      assignment = y.assignment;
      assumptions = y.assumptions;
      counters = y.counters;
      trail = y.trail;
      vsids =
          y.vsids;
    }

-- variables leave, and with them their activities and what was remembered of them
abbrev pub ChangesForgotten : {A : Type 0} → List Bool → Context A → Context A → Type 0
ChangesForgotten gone x y = y ≡ record x {
  assignment = record y.assignment { last = cleared gone false x.assignment.last };
  counters = y.counters;
  impl_graph = y.impl_graph;
  trail = y.trail;
  vsids = forgotten_activities gone x.vsids;
}

-- propagation, which exchanges literals of clauses and moves watches
abbrev pub ChangesPropagated : {A : Type 0} → Context A → Context A → Type 0
ChangesPropagated x y = y ≡ record x {
  assignment = y.assignment;
  clause_alloc = y.clause_alloc;
  counters = y.counters;
  impl_graph = y.impl_graph;
  trail = y.trail;
  watchlists = y.watchlists;
}

-- the clauses and their watches
abbrev pub ChangesClauses : {A : Type 0} → Context A → Context A → Type 0
ChangesClauses x y = y ≡ record x {
  binary_clauses = y.binary_clauses;
  clause_alloc = y.clause_alloc;
  clause_db = y.clause_db;
  counters = y.counters;
  watchlists = y.watchlists;
}

-- clauses go and become shorter, and the watch lists stay on or off
abbrev pub ChangesSimplified : {A : Type 0} → Context A → Context A → Type 0
ChangesSimplified x y = y ≡ record x {
  binary_clauses = y.binary_clauses;
  clause_alloc = y.clause_alloc;
  clause_db = y.clause_db;
  counters = y.counters;
  watchlists = record y.watchlists { enabled = x.watchlists.enabled };
}

-- a clause is added, which may be false; of the state only the verdict may change
abbrev pub ChangesLoaded : {A : Type 0} → Context A → Context A → Type 0
ChangesLoaded x y = y ≡ record x {
  assignment = y.assignment;
  binary_clauses = y.binary_clauses;
  clause_alloc = y.clause_alloc;
  clause_db = y.clause_db;
  counters = y.counters;
  impl_graph = y.impl_graph;
  solver_state = record x.solver_state { sat_state = y.solver_state.sat_state };
  trail = y.trail;
  watchlists = y.watchlists;
}

-- propagation at level 0, and then the clauses
abbrev pub ChangesRootSimplified : {A : Type 0} → Context A → Context A → Type 0
ChangesRootSimplified x y = y ≡ record x {
  assignment = y.assignment;
  binary_clauses = y.binary_clauses;
  clause_alloc = y.clause_alloc;
  clause_db = y.clause_db;
  counters = y.counters;
  impl_graph = y.impl_graph;
  trail = y.trail;
  watchlists = y.watchlists;
}

-- headers of the store's clauses
abbrev pub ChangesTiers : {A : Type 0} → Context A → Context A → Type 0
ChangesTiers x y = y ≡ record x { clause_alloc = y.clause_alloc; clause_db = y.clause_db; counters = y.counters }

-- the store's clauses and their watches
abbrev pub ChangesStore : {A : Type 0} → Context A → Context A → Type 0
ChangesStore x y =
    y
    ≡ record x {
      clause_alloc = y.clause_alloc;
      clause_db = y.clause_db;
      counters = y.counters;
      watchlists =
          y.watchlists;
    }

-- the places of the store's clauses too, and with them reasons
abbrev pub ChangesPlaces : {A : Type 0} → Context A → Context A → Type 0
ChangesPlaces x y = y ≡ record x {
  clause_alloc = y.clause_alloc;
  clause_db = y.clause_db;
  counters = y.counters;
  impl_graph = y.impl_graph;
  watchlists = y.watchlists;
}

-- all that is kept of clauses, and reasons
abbrev pub ChangesKept : {A : Type 0} → Context A → Context A → Type 0
ChangesKept x y = y ≡ record x {
  binary_clauses = y.binary_clauses;
  clause_activity = y.clause_activity;
  clause_alloc = y.clause_alloc;
  clause_db = y.clause_db;
  counters = y.counters;
  impl_graph = y.impl_graph;
  watchlists = y.watchlists;
}

-- a step begins, maybe with a restart
abbrev pub ChangesRestarted : {A : Type 0} → Context A → Context A → Type 0
ChangesRestarted x y =
    y
    ≡ record x {
      assignment = y.assignment;
      counters = y.counters;
      schedule = y.schedule;
      trail = y.trail;
      vsids =
          y.vsids;
    }

-- the plan once a step has begun
abbrev pub begun_plan : {A : Type 0} → Context A → Plan
begun_plan x = step_begun x.solver_config.luby_restart_interval_scale x.schedule

-- a step begins by the plan, maybe with a restart, which changes no activity
abbrev pub ChangesBegun : {A : Type 0} → Context A → Context A → Type 0
ChangesBegun x y = y ≡ record x {
  assignment = y.assignment;
  counters = y.counters;
  schedule = begun_plan x;
  trail = y.trail;
  vsids = record x.vsids { available = y.vsids.available };
}

-- and then maybe with reductions and a collection
abbrev pub ChangesReduced : {A : Type 0} → Context A → Context A → Type 0
ChangesReduced x y = y ≡ record x {
  assignment = y.assignment;
  clause_alloc = y.clause_alloc;
  clause_db = y.clause_db;
  counters = y.counters;
  impl_graph = y.impl_graph;
  schedule = begun_plan x;
  trail = y.trail;
  vsids = y.vsids;
  watchlists = y.watchlists;
}

-- a conflict is analysed, and there is room for as many variables as before
abbrev pub ChangesAnalysis : {A : Type 0} → Context A → Context A → Type 0
ChangesAnalysis x y =
    y
    ≡ record x {
      analyze_conflict = record y.analyze_conflict { var_count = x.analyze_conflict.var_count };
      counters =
          y.counters;
    }

-- and variables are bumped
abbrev pub ChangesAnalyzed : {A : Type 0} → Context A → Context A → Type 0
ChangesAnalyzed x y =
    y
    ≡ record x {
      analyze_conflict = y.analyze_conflict;
      counters = y.counters;
      tmp_flags = y.tmp_flags;
      vsids =
          y.vsids;
    }

-- 2. Frames of functions that count nothing: the counters stay too.

-- the flags that were used are as before
abbrev pub ClearsFlags : {A : Type 0} → Context A → Context A → Type 0
ClearsFlags x y = y.tmp_flags.flags.items ≡ x.tmp_flags.flags.items

-- clauses of the store are bumped
abbrev pub ChangesBumped : {A : Type 0} → Context A → Context A → Type 0
ChangesBumped x y =
    (y ≡ record x {
      clause_activity = y.clause_activity;
      clause_alloc = y.clause_alloc;
      clause_db =
          y.clause_db;
      tmp_flags = y.tmp_flags;
    })
    × ClearsFlags x y

-- a core is found
abbrev pub ChangesCore : {A : Type 0} → Context A → Context A → Type 0
ChangesCore x y =
    (y ≡ record x {
      assumptions = record x.assumptions { failed_core = y.assumptions.failed_core };
      tmp_flags =
          y.tmp_flags;
    }) × ClearsFlags x y

-- 3. What is the same after a function that changes the search, whichever parts that takes.

-- The search went forward: it propagated or decided. The same variables are decidable, activities and what is remembered stay, and
-- so does the verdict.
pub record GoesForward {A : Type 0} (x y : Context A) : Type 0 where
  pub decidable : SameDecidable (view x) x.vsids (view y) y.vsids
  pub activities : y.vsids ≡ record x.vsids { available = y.vsids.available }
  pub last : y.assignment.last ≡ x.assignment.last
  pub state : y.solver_state ≡ x.solver_state

-- The search went forward where this succeeded, and the schedule stays in any case.
pub record SearchesOn {A R E : Type 0} (r : Result R E) (x y : Context A) : Type 0 where
  pub forward : OnOk r (GoesForward x y)
  pub schedule : KeepsSchedule x y

-- A step by the plan is counted where it succeeded. The settings stay.
pub record CountsStep {A E : Type 0} (r : Result (Unit {0}) E) (x y : Context A) : Type 0 where
  pub plan : MatchResult r (λ _. y.schedule ≡ next_plan x.solver_config.luby_restart_interval_scale x.schedule)
      (λ _. y.schedule.steps ≡ x.schedule.steps)
  pub solver_config : y.solver_config ≡ x.solver_config

-- The search has as many variables as before, and each but this one is decidable exactly where it was.
pub record SameVariablesBut {A : Type 0} (v : ℕ) (x y : Context A) : Type 0 where
  pub count : length y.assignment.current ≡ length x.assignment.current
  pub decidable : SameDecidableBut v (view x) x.vsids (view y) y.vsids

-- The search has the same variables, the same of them are decidable, and their activities decay as before.
pub record KeepsVariables {A : Type 0} (x y : Context A) : Type 0 where
  pub decidable : SameDecidable (view x) x.vsids (view y) y.vsids
  pub decay : y.vsids.decay ≡ x.vsids.decay
  pub count : length y.assignment.current ≡ length x.assignment.current

-- The schedule stays, and where this succeeded so do the variables.
pub record KeepsScheduleAndVariables {A R E : Type 0} (r : Result R E) (x y : Context A) : Type 0 where
  pub schedule : KeepsSchedule x y
  pub variables : OnOk r (KeepsVariables x y)
