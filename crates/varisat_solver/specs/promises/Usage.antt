-- How the calls move names that set the mode of a variable, hide it, and bring hidden ones back.
--
-- Refusals are looked for in this order: Invalid; VariableLimit; AssumedVar; OutOfMemory.
use Rattle.std.specs.Prelude.{◌≡◌, ◌≢◌, ℕ, ◌<◌, ◌≤◌, Bool, true, false, None, Some, List, ◌⊎◌, Result, Ok, Err}
use Rattle.varisat_theory.specs.promises.Membership.{◌∈◌}
use Rattle.varisat_theory.specs.promises.Literals.{Literal, Clause, Assignment, variable_of, SatisfiesAll}
use Rattle.varisat_theory.specs.promises.Searches.{IsTautology}
use Rattle.varisat_literals.specs.promises.Numbers.{variable_limit}
use Rattle.varisat_names.specs.declared.variables.data.SamplingMode.{SamplingMode}
use Rattle.varisat_names.specs.declared.variables.data.SamplingMode.TheVariants as sampling
use Rattle.varisat_solver.specs.promises.Names.{Mode, Sample, Witness, Naming, name_one, free_name, set_mode, IsUnnamed, AreShown}
use Rattle.varisat_solver.specs.promises.States.{Known}
use Rattle.varisat_solver.specs.promises.Calls.{HasTooManyVariables, IsValid, IsRefusedInvalid, IsLikeButLeft, Invalidates, with_naming, count_anew}
use Rattle.varisat_solver.specs.declared.solver.SolverError.{SolverError}
use Rattle.varisat_solver.specs.declared.solver.SolverError.TheVariants.{OutOfMemory, Invalid, VariableLimit, AssumedVar}

-- two or more different literals, and no literal with its opposite
abbrev pub IsWide : Clause → Type 0
IsWide c = ((l m : Literal) × (l ∈ c) × (m ∈ c) × (l ≢ m)) × (IsTautology c → ⊥)

-- no wide clause names the identity
abbrev pub IsApart : List Clause → ℕ → Type 0
IsApart P i = (c : Clause) (l : Literal) → c ∈ P → IsWide c → l ∈ c → variable_of l ≡ i → ⊥

-- Hidden variables came back under these names. Those that did not may stay hidden: no wide clause names them, or all assignments that
-- satisfy the clauses agree on them.
pub record AreAllShown (us : List ℕ) (P : List Clause) (old new : Naming) : Type 0 where
  pub in_turn : AreShown us old new
  pub in_range : (u : ℕ) → u ∈ us → u < variable_limit
  pub rest : (i : ℕ) → i < new.made → IsUnnamed new i →
      IsApart P i ⊎ ((a b : Assignment) → SatisfiesAll a P → SatisfiesAll b P → a i ≡ b i)

-- the name is in use, and its variable is assumed
abbrev pub IsAssumed : {V : Type 0} → Known V → ℕ → Type 0
IsAssumed s u = (l : Literal) × (l ∈ s.assumptions) × (s.naming.names u ≡ Some (variable_of l))

-- the same with other names, where steps are counted anew
abbrev pub renamed : {V : Type 0} → Naming → Known V → Known V
renamed m s = count_anew (with_naming m s)

-- the same once the name is named
abbrev pub name_var : {V : Type 0} → ℕ → Known V → Known V
name_var u s = renamed (name_one u s.naming) s

-- A name is named, and then its variable is changed, unless it is assumed, and may leave.
abbrev pub ChangesVar : {V : Type 0} → Bool → (Known V → Known V) → Known V → ℕ → Result (Unit {0}) SolverError →
    Known V → Type 0
ChangesVar may_leave change s u (Ok _) t =
    IsValid s × (u < variable_limit) × (IsAssumed s u → ⊥) × IsLikeButLeft may_leave (change (name_var u s)) t
ChangesVar may_leave change s u (Err Invalid) t = IsRefusedInvalid s t
ChangesVar may_leave change s u (Err VariableLimit) t =
    IsValid s × ((variable_limit ≤ u) ⊎ HasTooManyVariables (name_one u s.naming)) × (t ≡ s)
ChangesVar may_leave change s u (Err (AssumedVar v)) t =
    IsValid s × (u < variable_limit) × (v ≡ u) × IsAssumed s u × (t ≡ s)
ChangesVar may_leave change s u (Err OutOfMemory) t = (u < variable_limit) × (IsAssumed s u → ⊥) × Invalidates 0 s t
ChangesVar may_leave change s u (Err _) t = ⊥

-- the variable of the name, which is in use, has the mode
abbrev pub with_mode : {V : Type 0} → ℕ → Mode → Known V → Known V
with_mode u mode s = renamed (set_mode u mode s.naming) s

-- The calls `sample_var` and `witness_var`. On a name in use they need no memory.
abbrev pub SetsMode : {V : Type 0} → Mode → Known V → ℕ → Result (Unit {0}) SolverError → Known V → Type 0
SetsMode mode s u r t = ChangesVar false (with_mode u mode) s u r t × (r ≡ Err OutOfMemory → s.naming.names u ≡ None)

-- the call `sample_var`
abbrev pub SamplesVar : {V : Type 0} → Known V → ℕ → Result (Unit {0}) SolverError → Known V → Type 0
SamplesVar s u r t = SetsMode Sample s u r t

-- the call `witness_var`
abbrev pub WitnessesVar : {V : Type 0} → Known V → ℕ → Result (Unit {0}) SolverError → Known V → Type 0
WitnessesVar s u r t = SetsMode Witness s u r t

-- the name is free, and its variable is hidden
abbrev pub hide_name : {V : Type 0} → ℕ → Known V → Known V
hide_name u s = record (renamed (free_name u s.naming) s) { ever_hidden = true }

-- the call `hide_var`, as which the variable may leave for good
abbrev pub HidesVar : {V : Type 0} → Known V → ℕ → Result (Unit {0}) SolverError → Known V → Type 0
HidesVar s u r t = ChangesVar true (hide_name u) s u r t

-- each of these calls, by the mode that it sets
abbrev pub ChangesMode : {V : Type 0} → SamplingMode → Known V → ℕ → Result (Unit {0}) SolverError → Known V → Type 0
ChangesMode sampling.Sample s u r t = SamplesVar s u r t
ChangesMode sampling.Witness s u r t = WitnessesVar s u r t
ChangesMode sampling.Hide s u r t = HidesVar s u r t

-- The call `observe_internal_vars`. Names of hidden variables are always found below the limit, as there are no more variables.
abbrev pub Observes : {V : Type 0} → Known V → Result (List ℕ) SolverError → Known V → Type 0
Observes s (Ok us) t =
    IsValid s × ((m : Naming) × AreAllShown us s.clauses s.naming m × IsLikeButLeft false (renamed m s) t)
Observes s (Err Invalid) t = IsRefusedInvalid s t
Observes s (Err OutOfMemory) t = Invalidates 0 s t
Observes s (Err _) t = ⊥
