-- What backtracking, deciding, a step and accepting a clause do.
use Rattle.std.specs.Prelude.{◌≡◌, ◌≢◌, ℕ, ◌<◌, ◌≤◌, Bool, false, Some, None, List, [], ◌++◌, length, take, slice_index_or, ◌⊎◌}
use Rattle.varisat_theory.specs.promises.Membership.{◌∈◌}
use Rattle.varisat_theory.specs.promises.Literals.{Literal, Clause, Assignment, variable_of}
use Rattle.varisat_prop.specs.Parts.{is_true_value}
use Rattle.varisat_prop.specs.View.{View, IsTrueIn, kept, literal_at, decision_at}
use Rattle.varisat_search.specs.declared.state.SatState.{SatState}
use Rattle.varisat_search.specs.declared.state.SatState.TheVariants as verdict
use Rattle.varisat_search.specs.declared.state.SolverState.{SolverState}

-- the variable is one of the literals from place p on
abbrev pub LeavesFrom : View → ℕ → ℕ → Type 0
LeavesFrom s p v = (k : ℕ) × (p ≤ k) × (k < length s.trail) × (variable_of (literal_at s k) ≡ v)

-- Backtracking: the trail and the decisions become their beginnings up to the level, all that is left counts as propagated, and
-- exactly the variables that leave the trail lose their values.
pub record IsCut (s t : View) (level : ℕ) : Type 0 where
  pub rest : t ≡ record s {
    values = t.values;
    trail = take (decision_at s level) s.trail;
    queue_head = decision_at s level;
    decisions = take level s.decisions;
  }
  pub count : length t.values ≡ length s.values
  pub gone : (v : ℕ) → LeavesFrom s (decision_at s level) v → slice_index_or t.values v None ≡ None
  pub stays : (v : ℕ) → (LeavesFrom s (decision_at s level) v → ⊥) →
      slice_index_or t.values v None ≡ slice_index_or s.values v None

-- Backtracking saves the values: each variable that leaves the trail has the value that it had as its last, and each other one keeps its last.
pub record Saves (s : View) (level : ℕ) (old new : List Bool) : Type 0 where
  pub count : length new ≡ length old
  pub left : (v : ℕ) → LeavesFrom s (decision_at s level) v →
      slice_index_or s.values v None ≡ Some (slice_index_or new v false)
  pub stays : (v : ℕ) → (LeavesFrom s (decision_at s level) v → ⊥) →
      slice_index_or new v false ≡ slice_index_or old v false

-- What is remembered where all decisions are undone: nothing changes where there are none.
abbrev pub SavesAll : View → List Bool → List Bool → Type 0
SavesAll s old new = (s.decisions ≡ [] → new ≡ old) × (0 < length s.decisions → Saves s 0 old new)

-- what is remembered where the search backtracks or stays
abbrev pub SavesSome : View → List Bool → List Bool → Type 0
SavesSome s old new = (new ≡ old) ⊎ ((level : ℕ) × (level < length s.decisions) × Saves s level old new)

-- The trail and the decisions went on, and nothing was taken back. Of kept clauses this says nothing.
pub record ExtendsTrail (s t : View) : Type 0 where
  pub count : length t.values ≡ length s.values
  pub is_true : (k : ℕ) → k < length t.trail → IsTrueIn t (literal_at t k)
  pub trail_more : (more : List Literal) × (t.trail ≡ s.trail ++ more)
  pub decisions_more : (more : List ℕ) × (t.decisions ≡ s.decisions ++ more)

-- What is remembered as the search goes on, to some view, and then backtracks or stays.
abbrev pub Remembers : View → List Bool → List Bool → Type 0
Remembers s old new = (u : View) × ExtendsTrail s u × SavesSome u old new

-- a literal that may be decided
abbrev pub IsFree : View → Literal → Type 0
IsFree s l = (variable_of l < length s.values) × (slice_index_or s.values (variable_of l) None ≡ None)

-- Each literal of a kept clause has a value. A variable that no kept clause names may have none.
abbrev pub IsTotal : View → Type 0
IsTotal s = (c : Clause) → c ∈ kept s → (l : Literal) → l ∈ c → slice_index_or s.values (variable_of l) None ≢ None

-- no literal of the trail is left to be propagated
abbrev pub IsPropagatedToEnd : View → Type 0
IsPropagatedToEnd s = s.queue_head ≡ length s.trail

-- what the values say of the variables, false where there is none
abbrev pub assignment_of : View → Assignment
assignment_of s v = is_true_value (slice_index_or s.values v None)

-- the verdict once a clause is accepted that does not contradict what is known
abbrev pub reopened_state : SatState → SatState
reopened_state verdict.Unknown = verdict.Unknown
reopened_state verdict.Sat = verdict.Unknown
reopened_state verdict.Unsat = verdict.Unsat
reopened_state verdict.UnsatUnderAssumptions = verdict.UnsatUnderAssumptions

-- the verdict after a clause is accepted: that one, or Unsat where the clause contradicts what is known
abbrev pub IsVerdictAfter : SatState → SatState → Type 0
IsVerdictAfter before after = (after ≡ reopened_state before) ⊎ (after ≡ verdict.Unsat)

-- the state after a clause is accepted, with this verdict
abbrev pub accepted_with : SatState → SolverState → SolverState
accepted_with v s = record s { sat_state = v; formula_is_empty = false }
