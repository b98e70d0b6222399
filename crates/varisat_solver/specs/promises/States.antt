-- What is known of a solver.
use Rattle.std.specs.Prelude.{◌≡◌, ℕ, ◌<◌, ◌≤◌, Bool, true, false, ◌||◌, nat_eq, if◌then◌else◌, Option, Some, None, List, [], ◌∷◌, ◌++◌}
use Rattle.varisat_theory.specs.promises.Membership.{◌∈◌, IsDistinct}
use Rattle.varisat_theory.specs.promises.Literals.{Literal, Clause, Assignment, variable_of, SatisfiesAll, MakesTrue, IsSatisfiable, IsFailedCore}
use Rattle.varisat_theory.specs.promises.Journals.{Entry}
use Rattle.varisat_names.specs.promises.Settings.{Settings, default_settings}
use Rattle.varisat_solver.specs.promises.Names.{Naming, no_names}
use Rattle.varisat_proof.specs.promises.Assumed.{lists_of}
use Rattle.varisat_solver.specs.promises.OpenProofs.{OpenProof, BarsAssumptions}

-- What is known of the accepted clauses and the assumptions. Under `Sat` an assignment of the identities was found, under
-- `UnsatUnderAssumptions` a failed core over identities.
pub data Verdict : Type 0 where
  Unknown : Verdict
  Sat : Assignment → Verdict
  Unsat : Verdict
  UnsatUnderAssumptions : List Literal → Verdict

-- What is known of an invalid solver too. `valid`: no error came from which there is no way back. `started`: a clause, a variable
-- or a list of assumptions was accepted. `steps`: how many steps were made in all. `since`: how many of them since the last
-- change, which is the last call that was not refused and did more than to solve or to return something. `settings`: those by which
-- further steps are made. `checking`: whether a checker runs inside, which it does from when it was switched on.
pub record Ledger : Type 0 where
  pub valid : Bool
  pub started : Bool
  pub steps : ℕ
  pub since : ℕ
  pub settings : Settings
  pub checking : Bool

-- What is known of a solver, where V is what is known of a verdict. `naming`: which identity each name has. `ever_hidden`: whether a
-- name was ever freed while its variable lived on. `clauses`: those accepted, over identities, as the names that were in use carried
-- them when they were given: a name that becomes free may come back for another variable, and what was said before still speaks of
-- the first. `assumptions`: the list as given, over identities. `counted`: the identities that accepted clauses and assumption lists
-- have named so far, each once. `logged`: what a proof that was opened at the beginning would have been logged, over identities, as long
-- as no error came from which there is no way back. `variables`: as which variable a proof writes each identity that was made; another
-- identity has the same one only once this one has left. `proof`: the proof that is open. `words`: how many words the clause store has.
pub record Known (V : Type 0) : Type 0 where
  pub naming : Naming
  pub ever_hidden : Bool
  pub clauses : List Clause
  pub assumptions : List Literal
  pub counted : List ℕ
  pub verdict : V
  pub ledger : Ledger
  pub logged : List Entry
  pub variables : ℕ → Option ℕ
  pub proof : Option OpenProof
  pub words : ℕ

-- what a user can know of a solver
abbrev pub State : Type 0
State = Known Verdict

-- whether the number is one of the list
abbrev pub is_member : ℕ → List ℕ → Bool
is_member i [] = false
is_member i (x ∷ xs) = nat_eq i x || is_member i xs

-- the identity joins those that are counted, unless it is one of them
abbrev pub join_one : ℕ → List ℕ → List ℕ
join_one i counted = if is_member i counted then counted else counted ++ i ∷ []

-- so do several in turn
abbrev pub join_counted : List ℕ → List ℕ → List ℕ
join_counted counted [] = counted
join_counted counted (i ∷ is) = join_counted (join_one i counted) is

-- before the first call, where this is known of the verdict
abbrev pub first_known : {V : Type 0} → V → Known V
first_known verdict = record {
  naming = no_names;
  ever_hidden = false;
  clauses = [];
  assumptions = [];
  counted = [];
  verdict = verdict;
  ledger =
      record { valid = true; started = false; steps = 0; since = 0; settings = default_settings; checking = false };
  logged = [];
  variables = λ i. None;
  proof = None;
  words = 0;
}

-- a new solver's state
abbrev pub empty_state : State
empty_state = first_known Unknown

-- so it is, but for whether a checker runs inside
abbrev pub new_state : Bool → State
new_state check = record empty_state { ledger = record empty_state.ledger { checking = check } }

-- the same state with other variables for its identities
abbrev pub with_variables : (ℕ → Option ℕ) → State → State
with_variables variables s = record s { variables = variables }

-- the same state with another size of the clause store
abbrev pub with_words : ℕ → State → State
with_words words s = record s { words = words }

-- What is true of each: names stand for different identities, none is in use from the watermark on, identities that are
-- spoken of were made, and none is counted twice.
pub record IsWellFormed {V : Type 0} (s : Known V) : Type 0 where
  pub one_to_one : (u v i : ℕ) → s.naming.names u ≡ Some i → s.naming.names v ≡ Some i → u ≡ v
  pub free : (u : ℕ) → s.naming.watermark ≤ u → s.naming.names u ≡ None
  pub named : (u i : ℕ) → s.naming.names u ≡ Some i → i < s.naming.made
  pub accepted : (c : Clause) (l : Literal) → c ∈ s.clauses → l ∈ c → variable_of l < s.naming.made
  pub assumed : (l : Literal) → l ∈ s.assumptions → variable_of l < s.naming.made
  pub counted : (i : ℕ) → i ∈ s.counted → i < s.naming.made
  pub once : IsDistinct s.counted

-- What two flags say of the state: before anything was accepted there are no clauses and no assumptions, nothing is counted, and
-- no list of assumptions was logged; and while a proof is open that bars assumptions nothing is assumed.
pub record FlagsFit (s : State) : Type 0 where
  pub clauses : s.ledger.started ≡ false → s.clauses ≡ []
  pub assumptions : s.ledger.started ≡ false → s.assumptions ≡ []
  pub counted : s.ledger.started ≡ false → s.counted ≡ []
  pub unlisted : s.ledger.started ≡ false → lists_of s.logged ≡ []
  pub unassumed : BarsAssumptions s.proof → s.assumptions ≡ []

-- What a verdict claims: an assignment that was found satisfies the clauses and the assumptions, and is false on each identity
-- that is not counted; Unsat stands only where no assignment satisfies the clauses; and a core is one of the assumptions, which
-- no assignment makes true together with the clauses.
abbrev pub IsRight : List Clause → List Literal → List ℕ → Verdict → Type 0
IsRight clauses assumptions counted Unknown = Unit {0}
IsRight clauses assumptions counted (Sat found) =
    SatisfiesAll found clauses × MakesTrue found assumptions × ((i : ℕ) → (i ∈ counted → ⊥) → found i ≡ false)
IsRight clauses assumptions counted Unsat = IsSatisfiable clauses → ⊥
IsRight clauses assumptions counted (UnsatUnderAssumptions core) = IsFailedCore clauses assumptions core

-- what the verdict of the state claims is right
abbrev pub HasRightVerdict : State → Type 0
HasRightVerdict s = IsRight s.clauses s.assumptions s.counted s.verdict
