-- The models and failed cores that are returned, and what a literal is that the clauses entail.
use Rattle.std.specs.Prelude.{◌≡◌, ℕ, zero, suc, ◌≤◌, false, Option, Some, None, List, [], ◌∷◌, map}
use Rattle.varisat_theory.specs.promises.Membership.{◌∈◌}
use Rattle.varisat_theory.specs.promises.Literals.{Literal, Clause, Assignment, variable_of, literal_of, SatisfiesAll, MakesTrue, Entails, IsFailedCore}
use Rattle.varisat_solver.specs.promises.States.{State, Verdict, Unknown, Sat, Unsat, UnsatUnderAssumptions}
use Rattle.varisat_solver.specs.promises.Names.{Naming, through_names}

-- the literal of a name in use, in front of others
abbrev pub put_name : ℕ → Option ℕ → Assignment → List Literal → List Literal
put_name u None found rest = rest
put_name u (Some i) found rest = literal_of u (found i) ∷ rest

-- the names in use among the k names from u on, in increasing order, with the values of their identities
abbrev pub list_names : Naming → Assignment → ℕ → ℕ → List Literal
list_names m found u zero = []
list_names m found u (suc k) = put_name u (m.names u) found (list_names m found (suc u) k)

-- Under Sat the names in use with the values that were found, else nothing.
abbrev pub model_of : Naming → Verdict → Option (List Literal)
model_of m Unknown = None
model_of m (Sat found) = Some (list_names m found 0 m.watermark)
model_of m Unsat = None
model_of m (UnsatUnderAssumptions core) = None

-- each name is higher than those before it, and the first is not below `low`
abbrev pub IsRising : ℕ → List Literal → Type 0
IsRising low [] = Unit {0}
IsRising low (l ∷ ls) = (low ≤ variable_of l) × IsRising (suc (variable_of l)) ls

-- A completable model: exactly the names in use, each once and in increasing order, such that some assignment agrees with the
-- list through the names and satisfies the accepted clauses and the assumptions. A name whose identity is not counted is listed
-- false.
pub record IsCompletable (m : Naming) (clauses : List Clause) (assumptions : List Literal) (counted : List ℕ)
    (model : List Literal) : Type 0 where
  pub rising : IsRising 0 model
  pub all_listed : (u i : ℕ) → m.names u ≡ Some i → (l : Literal) × (l ∈ model) × (variable_of l ≡ u)
  pub in_use : (l : Literal) → l ∈ model → (i : ℕ) × (m.names (variable_of l) ≡ Some i)
  pub uncounted : (l : Literal) (i : ℕ) → l ∈ model → m.names (variable_of l) ≡ Some i → (i ∈ counted → ⊥) →
      l ≡ literal_of (variable_of l) false
  pub satisfied : (a : Assignment) × MakesTrue a (map (through_names m) model) × SatisfiesAll a clauses
      × MakesTrue a assumptions

-- so it is of what the state accepted and assumed
abbrev pub IsCompletableIn : State → List Literal → Type 0
IsCompletableIn s model = IsCompletable s.naming s.clauses s.assumptions s.counted model

-- a model is known, and is completable
abbrev pub HasModel : State → Type 0
HasModel s = (model : List Literal) × (model_of s.naming s.verdict ≡ Some model) × IsCompletableIn s model

-- the core that is known: under Unsat the empty one
abbrev pub core_of : Verdict → Option (List Literal)
core_of Unknown = None
core_of (Sat found) = None
core_of Unsat = Some []
core_of (UnsatUnderAssumptions core) = Some core

-- a core is known, and is one
abbrev pub HasCore : State → Type 0
HasCore s = (core : List Literal) × (core_of s.verdict ≡ Some core) × IsFailedCore s.clauses s.assumptions core

-- each literal's name is in use
abbrev pub AreNamesInUse : Naming → List Literal → Type 0
AreNamesInUse m ls = (l : Literal) → l ∈ ls → (i : ℕ) × (m.names (variable_of l) ≡ Some i)

-- over names in use, which carry it to a failed core
abbrev pub IsNamedCore : State → List Literal → Type 0
IsNamedCore s core =
    AreNamesInUse s.naming core × IsFailedCore s.clauses s.assumptions (map (through_names s.naming) core)

-- A core as it is returned, over names in use, is the one that is known.
abbrev pub IsReturnedCore : State → Option (List Literal) → Type 0
IsReturnedCore s None = core_of s.verdict ≡ None
IsReturnedCore s (Some core) =
    AreNamesInUse s.naming core × (core_of s.verdict ≡ Some (map (through_names s.naming) core))

-- The literal's name is in use, and every assignment that satisfies the accepted clauses makes it true as the name carries it.
abbrev pub IsEntailed : Naming → List Clause → Literal → Type 0
IsEntailed m clauses l =
    (i : ℕ) × (m.names (variable_of l) ≡ Some i) × Entails clauses (through_names m l ∷ [])
