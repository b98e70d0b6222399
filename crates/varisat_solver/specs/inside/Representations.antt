-- Which states a solver represents, by what it holds, and what a valid solver keeps. `Represents` need not be read: each call keeps it.
use Rattle.std.specs.Prelude.{◌≡◌, ℕ, zero, suc, Bool, true, false, Option, Some, None, List, [], length, slice_index_or, IsSome}
use Rattle.varisat_theory.specs.promises.Membership.{◌∈◌}
use Rattle.varisat_theory.specs.promises.Literals.{Literal, variable_of}
use Rattle.varisat_prop.specs.Parts.{is_true_value}
use Rattle.varisat_prop.specs.View.{View}
use Rattle.varisat_search.specs.declared.context.Context.{Context}
use Rattle.varisat_search.specs.declared.state.SatState.{SatState}
use Rattle.varisat_search.specs.declared.state.SatState.TheVariants as verdict
use Rattle.varisat_search.specs.Contexts.{view, IsReady}
use Rattle.varisat_search.specs.AssumptionParts.{AssumptionParts}
use Rattle.varisat_search.specs.Steps.{assignment_of}
use Rattle.varisat_search.specs.Seen.{search_of, outcome_of}
use Rattle.varisat_names.specs.promises.VarMap.{at}
use Rattle.varisat_names.specs.promises.VarData.{data_at}
use Rattle.varisat_names.specs.promises.Variables.{Tables}
use Rattle.varisat_proof.specs.promises.Calls.{CheckerState}
use Rattle.varisat_proof.specs.promises.Proving.{ProofParts}
use Rattle.varisat_solver.specs.promises.OpenProofs.{opened_state, IsWrittenWhereOpen}
use Rattle.varisat_tracer.specs.inside.Tracing.{CanLog}
use Rattle.varisat_solver.specs.promises.States.{State, FlagsFit}
use Rattle.varisat_solver.specs.inside.Accepting.{AreBounded, DecidesInUse, IsAssumedSolver}
use Rattle.varisat_solver.specs.promises.Models.{put_name}
use Rattle.varisat_solver.specs.inside.Carried.{value_or}
use Rattle.varisat_solver.specs.inside.Spaces.{Spaces, SpacesFit}
use Rattle.varisat_solver.specs.inside.SinceChange.{CountsSince}
use Rattle.varisat_solver.specs.promises.Summaries.{Summary}

-- The model is read from the search.
abbrev pub spaces_of : Tables → Option CheckerState → View → AssumptionParts → SatState → Spaces
spaces_of t checker search assumed sat_state = record {
  global_from_user = at t.users.forward;
  user_from_global = at t.users.backward;
  watermark = length t.users.forward;
  globals = length t.kept;
  solver_from_global = at t.solvers.forward;
  global_from_solver = at t.solvers.backward;
  kept = data_at t.kept;
  model = λ x. value_or (data_at t.kept x).unit (assignment_of search) (at t.solvers.forward x);
  assumptions = assumed.user;
  core = assumed.user_core;
  working = assumed.working;
  search = search_of search;
  outcome = outcome_of search assumed.failed_core sat_state;
  var_count = length search.values;
  checker = checker;
}

-- so it is where the search is with its verdict
abbrev pub spaces_with : {A : Type 0} → Tables → Option CheckerState → Context A → Spaces
spaces_with t checker x = spaces_of t checker (view x) x.assumptions x.solver_state.sat_state

-- and while no verdict is known
abbrev pub undecided_spaces : {A : Type 0} → Tables → Option CheckerState → Context A → Spaces
undecided_spaces t checker x = spaces_of t checker (view x) x.assumptions verdict.Unknown

-- so it is for the whole solver
abbrev pub spaces : Summary → Spaces
spaces g = spaces_of g.tables g.checker g.search g.assumed g.sat_state

-- the value of a global variable in the model: that of its solver variable, without one that of the unit that is kept, and else
-- false
abbrev pub model_value : Tables → List (Option Bool) → ℕ → Bool
model_value t values x =
    value_or (data_at t.kept x).unit (λ v. is_true_value (slice_index_or values v None)) (at t.solvers.forward x)

-- the model as it is listed: the names in use among the k names from u on
abbrev pub list_tables : Tables → List (Option Bool) → ℕ → ℕ → List Literal
list_tables t values u zero = []
list_tables t values u (suc k) =
    put_name u (at t.users.forward u) (model_value t values) (list_tables t values (suc u) k)

-- what a valid solver keeps of its names, its variables and its search
pub record IsValidSolver {A : Type 0} (tables : Tables) (search : Context A) : Type 0 where
  pub bounded : AreBounded tables
  pub ready : IsReady search
  -- the search has the solver variables below the watermark
  pub count : length search.assignment.current ≡ length tables.solvers.backward
  -- and may decide exactly those in use, which accepted clauses or assumptions named
  pub decidable : DecidesInUse tables (view search) search.vsids
  -- assumptions are over names in use, whose variables are marked as assumed, and those by which the search goes over their solver variables
  pub assumed : (l : Literal) → l ∈ search.assumptions.user → IsSome (at tables.users.forward (variable_of l))
  pub marked : (l : Literal) (x : ℕ) → l ∈ search.assumptions.user → at tables.users.forward (variable_of l) ≡ Some x →
      (data_at tables.kept x).assumed ≡ true
  pub working : (l : Literal) → l ∈ search.assumptions.working → IsAssumedSolver tables (variable_of l)

-- Some state is represented by what is held. Before a clause, a variable or a list of assumptions was accepted it has no clauses, and
-- counts nothing.
abbrev pub RepresentsSome : Spaces → Bool → Type 0
RepresentsSome p started = (s : State) × SpacesFit p s × (started ≡ false → (s.clauses ≡ []) × (s.counted ≡ []))

-- What it keeps beside that: its proof can log entries, it counts the steps since its last change, before which `changed_at`
-- were made, and it represents some state, so that its checker finds each step right that it gets.
pub record IsValidSince {A : Type 0} (tables : Tables) (proof : ProofParts) (search : Context A) (started : Bool)
    (changed_at : ℕ) : Type 0 where
  pub kept : IsValidSolver tables search
  pub logs : CanLog proof
  pub counts : CountsSince changed_at search
  pub represents : RepresentsSome (spaces_with tables proof.checker search) started

-- The solver represents the state: both have the same ledger and as many words in the store, and the same proof is open, whose
-- target has the bytes that the state says; and where it is valid, what the solver holds stands for it, these are the bytes of the
-- lines that were logged, and no variable is past the limit.
pub record Represents (g : Summary) (s : State) : Type 0 where
  pub ledger : s.ledger ≡ g.ledger
  pub words : s.words ≡ g.words
  pub same : g.opened ≡ opened_state s.proof
  pub fits : g.ledger.valid ≡ true → SpacesFit (spaces g) s
  pub written : g.ledger.valid ≡ true → IsWrittenWhereOpen s.variables s.logged s.proof
  pub flags : g.ledger.valid ≡ true → FlagsFit s
  pub bounded : g.ledger.valid ≡ true → AreBounded g.tables
