-- What the search has to do with the variables of the user's names, and how names come to have solver variables.
use Rattle.std.specs.Prelude.{◌≡◌, ℕ, ◌<◌, ◌≤◌, ◌↔◌, Option, Some, None, List, [], ◌∷◌, length, Bool, false, IsSome, Result, MatchResult}
use Rattle.varisat_theory.specs.promises.Literals.{Literal, variable_of, literal_of}
use Rattle.varisat_theory.specs.inside.Outcomes.{Loads}
use Rattle.varisat_theory.specs.inside.Outcomes as outcome
use Rattle.varisat_literals.specs.promises.Numbers.{polarity_of, variable_limit}
use Rattle.varisat_names.specs.promises.VarMap.{at}
use Rattle.varisat_names.specs.promises.VarData.{data_at}
use Rattle.varisat_names.specs.promises.Variables.{Tables, AreLinked, IsNamed, IsTaken, IsDetached}
use Rattle.varisat_vsids.specs.Activities.{with_available}
use Rattle.varisat_search.specs.declared.context.Context.{Context}
use Rattle.varisat_search.specs.declared.state.SatState.TheVariants as verdict
use Rattle.varisat_search.specs.Contexts.{view, IsNotUnsat, IsReady}
use Rattle.varisat_search.specs.Decisions.{IsDecidable}
use Rattle.varisat_search.specs.Seen.{search_of}
use Rattle.varisat_search.specs.Steps.{reopened_state, accepted_with}

-- neither names nor global variables are past the limit
abbrev pub HasRoom : Tables → Type 0
HasRoom t = (length t.users.forward ≤ variable_limit) × (length t.kept ≤ variable_limit)

-- The names of the literals may come into use in turn, whatever solver variables are taken in between.
abbrev pub HasRoomFor : List Literal → Tables → Type 0
HasRoomFor [] t = Unit {0}
HasRoomFor (l ∷ ls) t =
    (variable_of l < variable_limit)
    × ((mid new : Tables) → IsNamed (variable_of l) t mid → new.users ≡ mid.users → new.kept ≡ mid.kept →
    HasRoom mid × HasRoomFor ls new)

-- Tables of variables and the search that has their solver variables.
pub record Searched (A : Type 0) : Type 0 where
  pub tables : Tables
  pub context : Context A

-- these
abbrev pub searched_with : {A : Type 0} → Tables → Context A → Searched A
searched_with t x = record { tables = t; context = x }

-- No number is past the limit, and the search has the solver variables below the watermark, of which it may decide exactly those in use.
pub record HasVariables {A : Type 0} (s : Searched A) : Type 0 where
  pub room : HasRoom s.tables
  pub solvers : length s.tables.solvers.backward ≤ variable_limit
  pub ready : IsReady s.context
  pub count : length s.context.assignment.current ≡ length s.tables.solvers.backward
  pub decidable : (v : ℕ) → IsDecidable (view s.context) s.context.vsids v ↔ IsSome (at s.tables.solvers.backward v)

-- A proof sees the search as it was, and the verdict and the assumptions stayed.
pub record KeepsSeen {A : Type 0} (old new : Context A) : Type 0 where
  pub seen : search_of (view new) ≡ search_of (view old)
  pub state : new.solver_state ≡ old.solver_state
  pub assumptions : new.assumptions ≡ old.assumptions

-- The unit clause of the literal is held again; under Unsat nothing is loaded.
pub record HasUnitAgain {A : Type 0} (l : Literal) (old new : Context A) : Type 0 where
  pub unsat : old.solver_state.sat_state ≡ verdict.Unsat → KeepsSeen old new
  pub lines : IsNotUnsat old → Loads (search_of (view old)) (search_of (view new)) (l ∷ []) outcome.Unknown []
  pub state : IsNotUnsat old →
      new.solver_state ≡ accepted_with (reopened_state old.solver_state.sat_state) old.solver_state
  pub assumptions : IsNotUnsat old → new.assumptions ≡ record old.assumptions { levels = 0 }

-- The global variable x has the solver variable v: it had it, it took it and has no unit, or it came back with its unit.
pub data HasSolverVariable {A : Type 0} (x : ℕ) (old new : Searched A) (v : ℕ) : Type 0 where
  HadOne : at old.tables.solvers.forward x ≡ Some v → new ≡ old → HasSolverVariable x old new v
  TookOne : at old.tables.solvers.forward x ≡ None → IsTaken old.tables new.tables x v →
      (data_at old.tables.kept x).unit ≡ None →
      KeepsSeen old.context new.context → HasSolverVariable x old new v
  CameBack : (b : Bool) → at old.tables.solvers.forward x ≡ None → IsTaken old.tables new.tables x v →
      (data_at old.tables.kept x).unit ≡ Some b →
      HasUnitAgain (literal_of v b) old.context new.context → HasSolverVariable x old new v

-- The name u was named, and its variable has the solver variable v.
pub record NameHasSolver {A : Type 0} (u : ℕ) (old new : Searched A) (v : ℕ) : Type 0 where
  pub mid : Tables
  pub global : ℕ
  pub named : IsNamed u old.tables mid
  pub leads : at mid.users.forward u ≡ Some global
  pub live : (data_at mid.kept global).deleted ≡ false
  pub solver : HasSolverVariable global (record old { tables = mid }) new v
  pub linked : AreLinked new.tables
  pub variables : HasVariables new

-- The solver variable was taken from its global variable, which is returned, and is not available any more; or memory was
-- refused, and nothing changed.
abbrev pub RemovesSolver : {A E : Type 0} → ℕ → Searched A → Searched A → Result ℕ E → Type 0
RemovesSolver v old new r =
    MatchResult r
    (λ global. IsDetached old.tables new.tables global v
    × (new.context ≡ record old.context { vsids = with_available v false old.context.vsids }))
    (λ _. new ≡ old)

-- the names of the literals came to have solver variables in turn
abbrev pub HaveSolversInTurn : {A : Type 0} → List Literal → Searched A → Searched A → Type 0
HaveSolversInTurn [] old new = new ≡ old
HaveSolversInTurn {A = A} (l ∷ ls) old new =
    (mid : Searched A) × (v : ℕ) × NameHasSolver (variable_of l) old mid v × HaveSolversInTurn ls mid new

-- Each literal of the second list is that of the first, in turn, over the variable to which the map leads.
abbrev pub AreOver : (ℕ → Option ℕ) → List Literal → List Literal → Type 0
AreOver f [] ms = ms ≡ []
AreOver f (l ∷ ls) ms =
    (v : ℕ) × (rest : List Literal) × (f (variable_of l) ≡ Some v) × (ms ≡ literal_of v (polarity_of l) ∷ rest)
    × AreOver f ls rest
