-- What a solver holds over its three name spaces, and which states it represents.
--
-- A name of the user leads to a global variable, which lasts as long as its identity may be spoken of, and a global variable to a
-- solver variable while the search speaks of it. Identities are never used again, global and solver variables are.
use Rattle.std.specs.Prelude.{◌≡◌, ◌≢◌, ℕ, zero, suc, ◌<◌, ◌≤◌, ◌⊎◌, Bool, true, false, Option, Some, None, List, [], ◌∷◌, ◌++◌, length, map, ◌↔◌}
use Rattle.varisat_theory.specs.promises.Membership.{◌∈◌, ◌⊆◌}
use Rattle.varisat_theory.specs.promises.Literals.{Literal, Clause, Assignment, variable_of, literal_of, IsUnit, SatisfiesAll, MakesTrue}
use Rattle.varisat_theory.specs.promises.Renaming.{rename}
use Rattle.varisat_theory.specs.promises.Held.{SameClauses}
use Rattle.varisat_theory.specs.promises.Derivations.{Add, Delete}
use Rattle.varisat_theory.specs.promises.Journals.{Entry, Accepts, Writes, Assumes, Fails, Retires, Leads, accepted_of, NoneRetires}
use Rattle.varisat_theory.specs.promises.Searches.{Search, IsTautology, CoversBy, IsLiteralOf}
use Rattle.varisat_theory.specs.inside.Outcomes.{SearchOutcome, Holds}
use Rattle.varisat_theory.specs.inside.Outcomes as outcome
use Rattle.varisat_literals.specs.promises.Numbers.{polarity_of}
use Rattle.varisat_names.specs.promises.Maps.{IsInverse, chain}
use Rattle.varisat_proof.specs.promises.Assumed.{assumed_behind, CoresAreAssumed}
use Rattle.varisat_proof.specs.promises.Calls.{CheckerState}
use Rattle.varisat_proof.specs.promises.Proving.{MayBePresent}
use Rattle.varisat_names.specs.declared.variables.data.SamplingMode.{SamplingMode}
use Rattle.varisat_names.specs.declared.variables.data.SamplingMode.TheVariants as sampling
use Rattle.varisat_names.specs.declared.variables.data.VarData.{VarData}
use Rattle.varisat_solver.specs.promises.States.{State, with_variables, Verdict, Unknown, Sat, Unsat, UnsatUnderAssumptions, HasRightVerdict, IsWellFormed}
use Rattle.varisat_solver.specs.promises.Names.{Mode, Sample, Witness}
use Rattle.varisat_solver.specs.promises.Models.{put_name}
use Rattle.varisat_proof.specs.promises.Passing.{LogsConflict}
use Rattle.varisat_tracer.specs.promises.Carried.{carry}
use Rattle.varisat_solver.specs.promises.Usage.{IsApart}
use Rattle.varisat_solver.specs.inside.Carried.{AgreesAlong, is_forced}

-- The maps as functions; how many global variables were made, what is kept of each of them, and its value in the model found
-- last; the assumptions as given and the core found last, over names; those of the assumptions by which the search goes, and the
-- search with its verdict, over solver variables, and how many variables it has; and the checker that runs inside, if one does.
pub record Spaces : Type 0 where
  pub global_from_user : ℕ → Option ℕ
  pub user_from_global : ℕ → Option ℕ
  pub watermark : ℕ
  pub globals : ℕ
  pub solver_from_global : ℕ → Option ℕ
  pub global_from_solver : ℕ → Option ℕ
  pub kept : ℕ → VarData
  pub model : ℕ → Bool
  pub assumptions : List Literal
  pub core : List Literal
  pub working : List Literal
  pub search : Search
  pub outcome : SearchOutcome
  pub var_count : ℕ
  pub checker : Option CheckerState

-- What no code keeps: the identity of each live global variable and the way back, and of identities, also of those that no global
-- variable stands for any more, the value that a unit forces.
pub record Carrying : Type 0 where
  pub identity : ℕ → Option ℕ
  pub global : ℕ → Option ℕ
  pub forced : ℕ → Option Bool

-- the mode in which a variable is kept is that of its identity; a hidden one has no name, and so no mode
abbrev pub ModeFits : SamplingMode → Mode → Type 0
ModeFits sampling.Sample Sample = Unit {0}
ModeFits sampling.Witness Witness = Unit {0}
ModeFits _ _ = ⊥

-- Just the live global variables stand for identities, each for one of its own.
pub record IdentitiesFit (identity global : ℕ → Option ℕ) (kept : ℕ → VarData) (made : ℕ) : Type 0 where
  pub one_to_one : IsInverse identity global
  pub live : (x i : ℕ) → identity x ≡ Some i → (kept x).deleted ≡ false
  pub deleted : (x : ℕ) → identity x ≡ None → (kept x).deleted ≡ true
  pub below : (x i : ℕ) → identity x ≡ Some i → i < made

-- A name stands for the identity of its global variable.
pub record NamesFit (identity from_user to_user names : ℕ → Option ℕ) (watermark : ℕ) : Type 0 where
  pub one_to_one : IsInverse from_user to_user
  pub agree : (u : ℕ) → names u ≡ chain from_user identity u
  pub live : (u x : ℕ) → from_user u ≡ Some x → (i : ℕ) × (identity x ≡ Some i)
  pub free : (u : ℕ) → watermark ≤ u → from_user u ≡ None

-- A global variable has the mode of its name. One without a name is in mode Hide.
pub record ModesFit (identity from_user to_user : ℕ → Option ℕ) (kept : ℕ → VarData) (modes : ℕ → Mode) : Type 0 where
  pub mode : (u x i : ℕ) → from_user u ≡ Some x → identity x ≡ Some i → ModeFits (kept x).sampling_mode (modes i)
  pub unnamed : (x : ℕ) → to_user x ≡ None → (kept x).sampling_mode ≡ sampling.Hide

-- The units kept are those that are forced, and these are of counted identities.
pub record UnitsFit (identity : ℕ → Option ℕ) (forced : ℕ → Option Bool) (kept : ℕ → VarData)
    (counted : List ℕ) : Type 0 where
  pub unit : (x i : ℕ) → identity x ≡ Some i → forced i ≡ (kept x).unit
  pub is_counted : (i : ℕ) (b : Bool) → forced i ≡ Some b → i ∈ counted

-- What the marks of isolation say of an identity: a variable stands for it that is not isolated, no wide clause names it, or its value is forced.
pub data IsolationCase (identity : ℕ → Option ℕ) (forced : ℕ → Option Bool) (kept : ℕ → VarData) (clauses : List Clause)
    (i : ℕ) : Type 0 where
  NotIsolated : (x : ℕ) → identity x ≡ Some i → (kept x).isolated ≡ false → IsolationCase identity forced kept clauses i
  Apart : IsApart clauses i → IsolationCase identity forced kept clauses i
  Forced : (b : Bool) → forced i ≡ Some b → IsolationCase identity forced kept clauses i

-- so it is for each identity
abbrev pub IsolationFits : (ℕ → Option ℕ) → (ℕ → Option Bool) → (ℕ → VarData) → List Clause → ℕ → Type 0
IsolationFits identity forced kept clauses made =
    (i : ℕ) → i < made → IsolationCase identity forced kept clauses i

-- Solver variables stand for live global variables whose identities are counted.
pub record SolversFit (identity from_global to_global : ℕ → Option ℕ) (counted : List ℕ) : Type 0 where
  pub one_to_one : IsInverse from_global to_global
  pub live : (v x : ℕ) → to_global v ≡ Some x → (i : ℕ) × (identity x ≡ Some i) × (i ∈ counted)

-- How what the search says is translated to identities: `identity` of each solver variable in use, `global` of each identity that
-- is live, the values that are forced, and what was logged of the clauses that are held.
pub record Translation : Type 0 where
  pub identity : ℕ → Option ℕ
  pub global : ℕ → Option ℕ
  pub forced : ℕ → Option Bool
  pub logged : List Entry

-- each literal of the clauses is of a live identity
abbrev pub AreLive : Translation → List Clause → Type 0
AreLive r P = (c : Clause) (l : Literal) → c ∈ P → l ∈ c → (x : ℕ) × (r.global (variable_of l) ≡ Some x)

-- The literal is true for good: its value is forced, or it is what a literal stands for that is true at level 0.
abbrev pub IsKnownTrue : Translation → List Literal → Literal → Type 0
IsKnownTrue r fixed l = (is_forced r.forced l ≡ true) ⊎ ((m : Literal) × (m ∈ fixed) × (carry r.identity m ≡ l))

-- The clause over identities says nothing more: it is a tautology, or a literal of it is true for good.
abbrev pub IsDischargedBy : Translation → List Literal → Clause → Type 0
IsDischargedBy r fixed c = IsTautology c ⊎ ((l : Literal) × (l ∈ c) × IsKnownTrue r fixed l)

-- What was logged leads to some clauses over identities: those of the search, which are over solver variables in use, and others
-- that it forgot with variables that left, over live identities. These say nothing more, and among them is a unit clause for each
-- forced value of a live identity without a solver variable.
pub record SharesHeld (r : Translation) (fixed : List Literal) (share : List Clause) : Type 0 where
  pub held : List Clause
  pub led : Leads [] r.logged held
  pub forgotten : List Clause
  pub same : SameClauses held (forgotten ++ rename (carry r.identity) share)
  pub inside : (c : Clause) (l : Literal) → c ∈ share → l ∈ c → (i : ℕ) × (r.identity (variable_of l) ≡ Some i)
  pub units : (i : ℕ) (b : Bool) (x : ℕ) → r.forced i ≡ Some b → r.global i ≡ Some x →
      ((v : ℕ) → r.identity v ≢ Some i) →
      (c : Clause) × (c ∈ forgotten) × IsUnit (literal_of i b) c
  pub live : AreLive r forgotten
  pub settled : (c : Clause) → c ∈ forgotten → IsDischargedBy r fixed c

-- What was logged of the clauses that the search holds. Under Unsat it leads to a conflict, and nothing more is logged of clauses.
abbrev pub HeldFits : Translation → List Literal → List Clause → SearchOutcome → Type 0
HeldFits r fixed share outcome.Unsat = LogsConflict r.logged
HeldFits r fixed share _ = SharesHeld r fixed share

-- What the search with its verdict says of the accepted clauses: it holds some clauses, as a proof would.
pub record SearchHolds (P : List Clause) (r : Translation) (s : Search) (v : SearchOutcome) : Type 0 where
  pub held : List Clause
  pub holds : Holds held s v
  -- the search speaks of variables in use only
  pub within : (l : Literal) → IsLiteralOf s l → (i : ℕ) × (r.identity (variable_of l) ≡ Some i)
  -- whatever satisfies the accepted clauses satisfies them, and has the forced values
  pub implied : (a b : Assignment) → SatisfiesAll a P → AgreesAlong r.identity a b → SatisfiesAll b held
  pub known : (a : Assignment) → SatisfiesAll a P → (i : ℕ) (b : Bool) → r.forced i ≡ Some b → a i ≡ b
  -- where an identity has a solver variable, its forced value is fixed in the search
  pub fixed : v ≢ outcome.Unsat → (l : Literal) (i : ℕ) → r.identity (variable_of l) ≡ Some i →
      r.forced i ≡ Some (polarity_of l) → l ∈ s.fixed
  -- each accepted clause is true, or is kept
  pub covered : v ≢ outcome.Unsat → CoversBy (carry r.identity) (is_forced r.forced) P s
  -- what was logged leads to these clauses and to what was forgotten
  pub logged : HeldFits r s.fixed held v

-- The list, which is given over names with solver variables, is the state's over identities.
pub record AssumptionsFit (from_user from_global names : ℕ → Option ℕ) (given assumptions : List Literal) : Type 0 where
  pub agree : assumptions ≡ map (carry names) given
  pub taken : (l : Literal) → l ∈ given → (v : ℕ) × (chain from_user from_global (variable_of l) ≡ Some v)

-- exactly the variables of the list are marked as assumed
pub record MarksFit (from_user : ℕ → Option ℕ) (kept : ℕ → VarData) (given : List Literal) : Type 0 where
  pub marked : (l : Literal) (x : ℕ) → l ∈ given → from_user (variable_of l) ≡ Some x → (kept x).assumed ≡ true
  pub only : (x : ℕ) → (kept x).assumed ≡ true → (l : Literal) × (l ∈ given) × (from_user (variable_of l) ≡ Some x)

-- The assumptions by which the search goes are some of those of the state, and whatever satisfies the accepted clauses and makes
-- them true makes all of these true.
pub record WorkingFits (P : List Clause) (identity : ℕ → Option ℕ) (assumptions working : List Literal) : Type 0 where
  pub used : (l : Literal) → l ∈ working → (i : ℕ) × (identity (variable_of l) ≡ Some i)
  pub part : map (carry identity) working ⊆ assumptions
  pub implied : (a : Assignment) → SatisfiesAll a P → MakesTrue a (map (carry identity) working) →
      MakesTrue a assumptions

-- a core of the state is the one that was logged over names in use
abbrev pub CoreFits : (ℕ → Option ℕ) → List Literal → Verdict → Type 0
CoreFits names logged Unknown = Unit {0}
CoreFits names logged (Sat found) = Unit {0}
CoreFits names logged Unsat = Unit {0}
CoreFits names logged (UnsatUnderAssumptions core) =
    ((l : Literal) → l ∈ logged → (i : ℕ) × (names (variable_of l) ≡ Some i)) × (core ≡ map (carry names) logged)

-- the verdict without a core, which says nothing of the clauses that are held
abbrev pub without_core : SearchOutcome → SearchOutcome
without_core outcome.Unknown = outcome.Unknown
without_core (outcome.Sat found) = outcome.Sat found
without_core outcome.Unsat = outcome.Unsat
without_core (outcome.UnsatUnder core) = outcome.Unknown

-- the verdict, and the model that was found with it; a core is not empty
abbrev pub VerdictFits : (ℕ → Option ℕ) → (ℕ → Bool) → SearchOutcome → Verdict → Type 0
VerdictFits identity model outcome.Unknown Unknown = Unit {0}
VerdictFits identity model (outcome.Sat found) (Sat a) = (x i : ℕ) → identity x ≡ Some i → a i ≡ model x
VerdictFits identity model outcome.Unsat Unsat = Unit {0}
VerdictFits identity model (outcome.UnsatUnder found) (UnsatUnderAssumptions core) = core ≢ []
VerdictFits identity model _ _ = ⊥

-- by way of global variables
abbrev pub translation : Carrying → Spaces → List Entry → Translation
translation w p logged =
    record { identity = chain p.global_from_solver w.identity; global = w.global; forced = w.forced; logged = logged }

-- the literal is of a counted identity
abbrev pub IsCounted : List ℕ → Literal → Type 0
IsCounted counted l = variable_of l ∈ counted

-- the identity was made, and no global variable stands for it any more
abbrev pub IsRetired : Carrying → State → ℕ → Type 0
IsRetired w s i = (i < s.naming.made) × (w.global i ≡ None)

-- each literal of the entry is one of these
abbrev pub SpeaksOf : (Literal → Type 0) → Entry → Type 0
SpeaksOf are (Accepts c) = (l : Literal) → l ∈ c → are l
SpeaksOf are (Writes (Add c)) = (l : Literal) → l ∈ c → are l
SpeaksOf are (Writes (Delete c)) = (l : Literal) → l ∈ c → are l
SpeaksOf are (Assumes a) = (l : Literal) → l ∈ a → are l
SpeaksOf are (Fails core) = (l : Literal) → l ∈ core → are l
SpeaksOf are (Retires i) = Unit {0}

-- so it is of each of the entries
abbrev pub AllSpeakOf : (Literal → Type 0) → List Entry → Type 0
AllSpeakOf are [] = Unit {0}
AllSpeakOf are (e ∷ es) = SpeaksOf are e × AllSpeakOf are es

-- The accepted clauses are those that were logged, in order, the list logged last is that of the assumptions, and cores are of what was
-- assumed; literals are of counted identities; just those identities were logged as gone that are gone; and none left as long as
-- nothing was hidden.
pub record IsWholeLog (logged : List Entry) (clauses : List Clause) (assumptions : List Literal) (counted : List ℕ)
    (ever_hidden : Bool)
    (gone : ℕ → Type 0) : Type 0 where
  pub accepted : accepted_of logged ≡ clauses
  pub assumed : assumed_behind [] logged ≡ assumptions
  pub cores : CoresAreAssumed [] logged
  pub spoken : AllSpeakOf (IsCounted counted) logged
  pub left : (i : ℕ) → (Retires i ∈ logged) ↔ gone i
  pub stays : ever_hidden ≡ false → NoneRetires logged

-- Each identity that was made is that of the global variable of its number, as long as none leaves.
pub record IsPlain (identity : ℕ → Option ℕ) (made : ℕ) : Type 0 where
  pub all : (i : ℕ) → i < made → identity i ≡ Some i
  pub only : (x i : ℕ) → identity x ≡ Some i → i ≡ x

-- The checker that runs inside has what was logged so far leads to, over global variables: the same clauses, each as often.
abbrev pub CheckerFits : (ℕ → Option ℕ) → List Entry → Option CheckerState → Type 0
CheckerFits global logged checker = (held : List Clause) → Leads [] logged held →
    MayBePresent checker (rename (carry global) held)

-- What a solver holds stands for the state.
pub record Links (w : Carrying) (p : Spaces) (s : State) : Type 0 where
  pub identities : IdentitiesFit w.identity w.global p.kept s.naming.made
  pub names : NamesFit w.identity p.global_from_user p.user_from_global s.naming.names s.naming.watermark
  pub modes : ModesFit w.identity p.global_from_user p.user_from_global p.kept s.naming.modes
  pub watermark : s.naming.watermark ≡ p.watermark
  -- each global variable was made for an identity
  pub globals : p.globals ≤ s.naming.made
  pub units : UnitsFit w.identity w.forced p.kept s.counted
  pub isolation : IsolationFits w.identity w.forced p.kept s.clauses s.naming.made
  pub solvers : SolversFit w.identity p.solver_from_global p.global_from_solver s.counted
  pub holds : SearchHolds s.clauses (translation w p s.logged) p.search (without_core p.outcome)
  pub assumptions : AssumptionsFit p.global_from_user p.solver_from_global s.naming.names p.assumptions s.assumptions
  pub marks : MarksFit p.global_from_user p.kept p.assumptions
  pub working : WorkingFits s.clauses (translation w p s.logged).identity s.assumptions p.working
  pub verdict : VerdictFits w.identity p.model p.outcome s.verdict
  pub core : CoreFits s.naming.names p.core s.verdict
  pub right : HasRightVerdict s
  pub well_formed : IsWellFormed s
  -- the search has no more variables than are counted
  pub few : p.var_count ≤ length s.counted
  -- where nothing was ever hidden, each live global variable has a name
  pub shown : s.ever_hidden ≡ false → (x : ℕ) → p.user_from_global x ≡ None → (p.kept x).deleted ≡ true
  -- and stands for the identity of its number
  pub plain : s.ever_hidden ≡ false → IsPlain w.identity s.naming.made
  -- a proof writes each live identity as its global variable
  pub variables : (i x : ℕ) → w.global i ≡ Some x → s.variables i ≡ Some x
  -- and each that was made, also one that has left, as one of the global variables
  pub numbered : (i x : ℕ) → s.variables i ≡ Some x → x < p.globals
  pub logged : IsWholeLog s.logged s.clauses s.assumptions s.counted s.ever_hidden (IsRetired w s)
  pub checked : CheckerFits w.global s.logged p.checker

-- the spaces stand for the state
abbrev pub SpacesFit : Spaces → State → Type 0
SpacesFit p s = (w : Carrying) × Links w p s

-- identities below the bound have the same variables
abbrev pub KeepVariables : ℕ → (ℕ → Option ℕ) → (ℕ → Option ℕ) → Type 0
KeepVariables made old new = (i : ℕ) → i < made → new i ≡ old i

-- The spaces stand for the second state, in which identities are new, once these have variables.
abbrev pub FitWithNew : Spaces → State → State → Type 0
FitWithNew p s t =
    (variables : ℕ → Option ℕ) × KeepVariables s.naming.made s.variables variables
    × SpacesFit p (with_variables variables t)

-- they stand for some state
abbrev pub FitSome : Spaces → Type 0
FitSome p = (s : State) × SpacesFit p s

-- the names in use among the k names from u on, in increasing order, with the values that their variables have in the model
abbrev pub list_globals : Spaces → ℕ → ℕ → List Literal
list_globals p u zero = []
list_globals p u (suc k) = put_name u (p.global_from_user u) p.model (list_globals p (suc u) k)
