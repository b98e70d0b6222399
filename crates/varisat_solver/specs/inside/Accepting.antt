-- What an accepted clause and a list of assumptions do to the maps between names, global variables and solver variables, and to the search.
use Rattle.std.specs.Prelude.{◌≡◌, ◌≢◌, ◌⊎◌, ◌↔◌, ℕ, ◌+◌, ◌-◌, ◌<◌, ◌≤◌, Bool, true, false, Some, None, List, length, Result, Ok, Err, IsSome}
use Rattle.varisat_theory.specs.promises.Membership.{◌∈◌}
use Rattle.varisat_theory.specs.promises.Literals.{Literal, variable_of}
use Rattle.varisat_literals.specs.promises.Numbers.{variable_limit}
use Rattle.varisat_names.specs.promises.Maps.{chain}
use Rattle.varisat_names.specs.promises.VarMap.{at}
use Rattle.varisat_names.specs.promises.VarData.{data_at}
use Rattle.varisat_names.specs.promises.Variables.{Tables}
use Rattle.varisat_names.specs.declared.variables.data.SamplingMode.{SamplingMode}
use Rattle.varisat_names.specs.declared.variables.data.SamplingMode.TheVariants as sampling
use Rattle.varisat_prop.specs.View.{View}
use Rattle.varisat_vsids.specs.Activities.{Activities}
use Rattle.varisat_search.specs.Decisions.{IsDecidable}
use Rattle.varisat_solver.specs.promises.Names.{Mode, Sample, Witness, Naming, name_all, NameNoWitness, IsFirstWitness}
use Rattle.varisat_solver.specs.promises.Calls.{IsPastLimit, HasTooManyVariables}
use Rattle.varisat_solver.specs.declared.solver.SolverError.{SolverError}
use Rattle.varisat_solver.specs.declared.solver.SolverError.TheVariants.{WitnessVar, VariableLimit}

-- No number is past the limit.
pub record AreBounded (t : Tables) : Type 0 where
  pub users : length t.users.forward ≤ variable_limit
  pub globals : length t.kept ≤ variable_limit
  pub solvers : length t.solvers.backward ≤ variable_limit

-- the mode of a name whose variable has this one; Hide is never that of one with a name
abbrev pub mode_of : SamplingMode → Mode
mode_of sampling.Sample = Sample
mode_of sampling.Witness = Witness
mode_of sampling.Hide = Sample

-- The names of the tables, as if global variables were identities, each used once.
abbrev pub naming_of : Tables → Naming
naming_of t =
    record {
      made = length t.kept;
      names = at t.users.forward;
      watermark = length t.users.forward;
      modes =
          λ x. mode_of (data_at t.kept x).sampling_mode;
    }

-- The name is free and below the watermark, and none of the literals has it: once these were named, it comes into use alone.
abbrev pub ComesAlone : Tables → List Literal → ℕ → Type 0
ComesAlone t d u =
    (u < length t.users.forward) × (at t.users.forward u ≡ None) × ((l : Literal) → l ∈ d → variable_of l ≢ u)

-- So many come into use alone where the literals are named: beside them are made those that are passed on the way up from the watermark.
abbrev pub CountsAlone : Tables → List Literal → ℕ → Type 0
CountsAlone t d count =
    let named : Naming = name_all d (naming_of t) in
    named.made ≡ length t.kept + (named.watermark - length t.users.forward) + count

-- The names of the literals may come into use: none is past the limit, nor is the room spent for their variables.
pub record CanBeNamed (clause : List Literal) (t : Tables) : Type 0 where
  pub bounded : AreBounded t
  pub in_range : IsPastLimit clause → ⊥
  pub room : HasTooManyVariables (name_all clause (naming_of t)) → ⊥

-- What is found out of the names of a clause or of a list of assumptions before they come into use.
abbrev pub ChecksNames : Tables → List Literal → Result (Unit {0}) SolverError → Type 0
ChecksNames t d (Ok _) = CanBeNamed d t × NameNoWitness (naming_of t) d
ChecksNames t d (Err VariableLimit) = IsPastLimit d ⊎ HasTooManyVariables (name_all d (naming_of t))
ChecksNames t d (Err (WitnessVar u)) = CanBeNamed d t × IsFirstWitness (naming_of t) d u
ChecksNames t d (Err _) = ⊥

-- The names of the clause are in use.
pub record HasNames (clause : List Literal) (t : Tables) : Type 0 where
  pub bounded : AreBounded t
  pub named : (l : Literal) → l ∈ clause → IsSome (at t.users.forward (variable_of l))

-- the solver variable of a name
abbrev pub HasSolver : Tables → ℕ → Type 0
HasSolver t u = (v : ℕ) × (chain (at t.users.forward) (at t.solvers.forward) u ≡ Some v)

-- A clause was accepted: where it has several literals, its variables are not isolated any more, and nothing else changed.
pub record AreJoined (clause : List Literal) (old new : Tables) : Type 0 where
  pub users : new.users ≡ old.users
  pub solvers : new.solvers ≡ old.solvers
  pub count : length new.kept ≡ length old.kept
  pub rest : (x : ℕ) → data_at new.kept x ≡ record (data_at old.kept x) { isolated = (data_at new.kept x).isolated }
  pub fallen : (x : ℕ) → (data_at new.kept x).isolated ≡ true → (data_at old.kept x).isolated ≡ true
  pub joined : 1 < length clause → (l : Literal) (x : ℕ) → l ∈ clause → at old.users.forward (variable_of l) ≡ Some x →
      (data_at new.kept x).isolated ≡ false
  pub others : (x : ℕ) → ((l : Literal) → l ∈ clause → at old.users.forward (variable_of l) ≢ Some x) →
      data_at new.kept x ≡ data_at old.kept x
  pub alone : length clause ≤ 1 → new ≡ old

-- Exactly the solver variables in use may be decided.
abbrev pub DecidesInUse : Tables → View → Activities → Type 0
DecidesInUse t s a = (v : ℕ) → IsDecidable s a v ↔ IsSome (at t.solvers.backward v)

-- The variables of the list are marked as assumed, or not any more, and nothing else changed.
pub record AreMarked (list : List Literal) (assumed : Bool) (old new : Tables) : Type 0 where
  pub users : new.users ≡ old.users
  pub solvers : new.solvers ≡ old.solvers
  pub count : length new.kept ≡ length old.kept
  pub rest : (x : ℕ) → data_at new.kept x ≡ record (data_at old.kept x) { assumed = (data_at new.kept x).assumed }
  pub marked : (l : Literal) (x : ℕ) → l ∈ list → at old.users.forward (variable_of l) ≡ Some x →
      (data_at new.kept x).assumed ≡ assumed
  pub others : (x : ℕ) → ((data_at new.kept x).assumed ≡ (data_at old.kept x).assumed)
      ⊎ ((l : Literal) × (l ∈ list) × (at old.users.forward (variable_of l) ≡ Some x))

-- the solver variable is that of a name whose variable is marked as assumed
abbrev pub IsAssumedSolver : Tables → ℕ → Type 0
IsAssumedSolver t v =
    (x u : ℕ) × (at t.solvers.backward v ≡ Some x) × (at t.users.backward x ≡ Some u)
    × ((data_at t.kept x).assumed ≡ true)

-- the name of a solver variable
abbrev pub HasUser : Tables → ℕ → Type 0
HasUser t v = (u : ℕ) × (chain (at t.solvers.backward) (at t.users.backward) v ≡ Some u)
