-- What the calls that set the mode of a variable and hide it do to the tables.
use Rattle.std.specs.Prelude.{◌≡◌, ◌≢◌, ◌⊎◌, ℕ, ◌<◌, ◌≤◌, true, false, Some, Result, Ok, Err}
use Rattle.varisat_literals.specs.promises.Numbers.{variable_limit}
use Rattle.varisat_names.specs.promises.VarMap.{at}
use Rattle.varisat_names.specs.promises.VarData.{data_at}
use Rattle.varisat_names.specs.promises.Variables.{Tables, IsNamed, IsChangedTo, IsHidden, IsRetiredIfUnused}
use Rattle.varisat_proof.specs.promises.Proving.{IsLogged}
use Rattle.varisat_search.specs.declared.state.SatState.{SatState}
use Rattle.varisat_search.specs.declared.state.SatState.TheVariants as verdict
use Rattle.varisat_tracer.specs.inside.Tracing.{TracerState, retires_if_deleted}
use Rattle.varisat_names.specs.declared.variables.data.SamplingMode.{SamplingMode}
use Rattle.varisat_names.specs.declared.variables.data.SamplingMode.TheVariants as sampling
use Rattle.varisat_solver.specs.promises.Names.{name_one}
use Rattle.varisat_solver.specs.promises.Calls.{HasTooManyVariables}
use Rattle.varisat_solver.specs.inside.Accepting.{AreBounded, naming_of}
use Rattle.varisat_solver.specs.declared.solver.SolverError.{SolverError}
use Rattle.varisat_solver.specs.declared.solver.SolverError.TheVariants.{VariableLimit, AssumedVar}

-- the variable is marked as assumed
abbrev pub IsMarkedAssumed : Tables → ℕ → Type 0
IsMarkedAssumed t x = (data_at t.kept x).assumed ≡ true

-- the name is in use, and its variable is marked as assumed
abbrev pub IsMarkedName : Tables → ℕ → Type 0
IsMarkedName t u = (x : ℕ) × (at t.users.forward u ≡ Some x) × IsMarkedAssumed t x

-- The name may come into use, and its variable be changed: it is not assumed.
pub record CanBeChanged (u : ℕ) (t : Tables) : Type 0 where
  pub bounded : AreBounded t
  pub in_range : u < variable_limit
  pub room : HasTooManyVariables (name_one u (naming_of t)) → ⊥
  pub unassumed : IsMarkedName t u → ⊥

-- What is found out of a name before its variable is changed.
abbrev pub ChecksChange : Tables → ℕ → Result (Unit {0}) SolverError → Type 0
ChecksChange t u (Ok _) = CanBeChanged u t
ChecksChange t u (Err VariableLimit) = (variable_limit ≤ u) ⊎ HasTooManyVariables (name_one u (naming_of t))
ChecksChange t u (Err (AssumedVar v)) = (u < variable_limit) × (v ≡ u) × IsMarkedName t u
ChecksChange t u (Err _) = ⊥

-- What a valid solver keeps of its tables stays true. Variables that are marked as assumed keep their names and marks.
pub record StaysValid (old new : Tables) : Type 0 where
  pub bounded : AreBounded new
  pub solvers : new.solvers ≡ old.solvers
  pub named : (u x : ℕ) → at old.users.forward u ≡ Some x → IsMarkedAssumed old x →
      (at new.users.forward u ≡ Some x) × IsMarkedAssumed new x
  pub names : (x u : ℕ) → at old.users.backward x ≡ Some u → IsMarkedAssumed old x →
      (at new.users.backward x ≡ Some u) × IsMarkedAssumed new x

-- The name was named, and leads to the variable, which is not assumed.
pub record IsNamedAs (u : ℕ) (old new : Tables) (x : ℕ) : Type 0 where
  pub named : IsNamed u old new
  pub leads : at new.users.forward u ≡ Some x
  pub live : (data_at new.kept x).deleted ≡ false
  pub unassumed : (data_at new.kept x).assumed ≡ false
  pub stays : StaysValid old new

-- The name was named, and its variable x has the mode: as `Hide` the name is free.
pub record SetsNamedMode (u : ℕ) (mode : SamplingMode) (old : Tables) (x : ℕ) (new : Tables) : Type 0 where
  pub mid : Tables
  pub named : IsNamedAs u old mid x
  pub hidden : mode ≡ sampling.Hide → IsHidden mid new u x
  pub changed : mode ≢ sampling.Hide → IsChangedTo mid new x (record (data_at mid.kept x) { sampling_mode = mode })
  pub stays : StaysValid old new

-- The hidden variable x is not live any more where it is unused, and the proof logs that.
pub record RetiresIfUnused (p : TracerState) (x : ℕ) (q : TracerState) : Type 0 where
  pub deleted : IsRetiredIfUnused p.tables q.tables x
  pub logged : IsLogged p.proof (retires_if_deleted q.tables x) q.proof
  pub opened : q.proof.opened ≡ p.proof.opened

-- The name was named and is free, and its variable hidden. Unless the verdict is Unsat, it left where it is unused.
pub record HidesNamed (u : ℕ) (v : SatState) (p q : TracerState) : Type 0 where
  pub mid : Tables
  pub global : ℕ
  pub set : SetsNamedMode u sampling.Hide p.tables global mid
  pub left : v ≢ verdict.Unsat → RetiresIfUnused (record p { tables = mid }) global q
  pub stays : v ≡ verdict.Unsat → q ≡ record p { tables = mid }

-- The name was named, and its variable has the mode. Only as `Hide` it may have left, which the proof logs.
pub record ChangesNamed (u : ℕ) (mode : SamplingMode) (v : SatState) (p q : TracerState) : Type 0 where
  pub hides : mode ≡ sampling.Hide → HidesNamed u v p q
  pub sets : mode ≢ sampling.Hide → (x : ℕ) × SetsNamedMode u mode p.tables x q.tables
  pub unlogged : mode ≢ sampling.Hide → q.proof ≡ p.proof
