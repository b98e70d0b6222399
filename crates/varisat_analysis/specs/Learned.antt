-- What conflict analysis finds.
use Rattle.std.specs.Prelude.{◌≡◌, ℕ, ◌<◌, ◌≤◌, List, [], ◌∷◌, length}
use Rattle.varisat_theory.specs.promises.Membership.{◌∈◌, IsDistinct}
use Rattle.varisat_theory.specs.promises.Literals.{Literal, Clause, opposite}
use Rattle.varisat_theory.specs.promises.Propagation.{IsFalse, Follows}
use Rattle.varisat_theory.specs.promises.Analysis.{Reached}
use Rattle.varisat_prop.specs.declared.prop.graph.Reason.{Reason}
use Rattle.varisat_prop.specs.declared.prop.graph.Reason.TheVariants as reason
use Rattle.varisat_prop.specs.declared.prop.graph.Conflict.{Conflict}
use Rattle.varisat_prop.specs.declared.prop.graph.Conflict.TheVariants as conflict
use Rattle.varisat_prop.specs.declared.prop.graph.ImplNode.{ImplNode}
use Rattle.varisat_clause.specs.Stores.{Store, IsSound}
use Rattle.varisat_clause.specs.Collected.{live_clauses}
use Rattle.varisat_prop.specs.Parts.{TrailParts}
use Rattle.varisat_prop.specs.Changes.{named_in, NamesKeptClause}
use Rattle.varisat_prop.specs.View.{View, kept, clause_at, literal_at, node_at, node_of, level_of, ViewFits}

-- the learned clause, the clauses that it came from, their variables above level 0, and for how many variables there are flags
pub record Analysis : Type 0 where
  pub clause : Clause
  pub involved : List Conflict
  pub met : List ℕ
  pub var_count : ℕ

-- before the first conflict
abbrev pub no_analysis : Analysis
no_analysis = record { clause = []; involved = []; met = []; var_count = 0 }

-- The view has the clauses of a sound store, and these nodes, literals and decisions.
pub record Shows (s : View) (store : Store) (nodes : List ImplNode) (trail : TrailParts) : Type 0 where
  pub sound : IsSound store
  pub clauses_are : live_clauses store ≡ s.clauses
  pub nodes_are : nodes ≡ s.nodes
  pub trail_is : trail.literals ≡ s.trail
  pub decisions_are : trail.decisions ≡ s.decisions

-- the current level is the number of decisions
abbrev pub current_level : View → ℕ
current_level s = length s.decisions

-- the literal at the place is of the current level
abbrev pub IsOfCurrentLevel : View → ℕ → Type 0
IsOfCurrentLevel s k = (k < length s.trail) × ((node_at s k).level ≡ current_level s)

-- the clause by which the literal is true for the reason, the empty one where there is none
abbrev pub implying_clause : View → Literal → Reason → Clause
implying_clause s l reason.Unit = []
implying_clause s l (reason.Binary ms) = l ∷ ms
implying_clause s l (reason.Long i) = clause_at s i

-- its name, if there is one
abbrev pub names_of : Literal → Reason → List Conflict
names_of l reason.Unit = []
names_of l (reason.Binary ms) = conflict.Binary (l ∷ ms) ∷ []
names_of l (reason.Long i) = conflict.Long i ∷ []

-- the clause that made the literal true, the empty one where none did
abbrev pub reason_clause : View → Literal → Clause
reason_clause s l = implying_clause s l (node_of s l).reason

-- the literal is one of the current level behind place k
abbrev pub IsLaterInLevel : View → ℕ → Literal → Type 0
IsLaterInLevel s k l = (j : ℕ) × (k < j) × IsOfCurrentLevel s j × (literal_at s j ≡ l)

-- From the conflict's clause the literal is reached over reasons of reached literals of the current level behind place k.
abbrev pub IsReachedDownTo : View → Conflict → ℕ → Literal → Type 0
IsReachedDownTo s f k l = Reached (named_in s.clauses f) (reason_clause s) (IsLaterInLevel s k) l

-- The literal at place k is of the current level and is reached, while no earlier one of that level is.
pub record IsImplicationPoint (s : View) (f : Conflict) (k : ℕ) : Type 0 where
  pub current : IsOfCurrentLevel s k
  pub reached : IsReachedDownTo s f k (literal_at s k)
  pub alone : (j : ℕ) → j < k → IsOfCurrentLevel s j → IsReachedDownTo s f k (literal_at s j) → ⊥

-- the latest such place, which analysis comes to first
pub record IsFirstPoint (s : View) (f : Conflict) (k : ℕ) : Type 0 where
  pub point : IsImplicationPoint s f k
  pub latest : (j : ℕ) → k < j → IsImplicationPoint s f j → ⊥

-- The clause with the name g takes part in the resolution that starts from the conflict's clause and ends at the implication point at place k.
pub data IsInvolved (s : View) (f : Conflict) (k : ℕ) (g : Conflict) : Type 0 where
  -- it is the conflict's clause
  IsOfConflict : g ≡ f → IsInvolved s f k g
  -- it is the reason of a reached literal of the current level behind the implication point
  IsReasonOf : (j : ℕ) → k < j → IsOfCurrentLevel s j → IsReachedDownTo s f k (literal_at s j) →
      g ∈ names_of (literal_at s j) (node_at s j).reason →
      IsInvolved s f k g

-- The names are those of the clauses that are resolved down to the first unique implication point: all of them, each once, and no other.
pub record ListsInvolved (s : View) (f : Conflict) (involved : List Conflict) : Type 0 where
  pub place : ℕ
  pub point : IsFirstPoint s f place
  pub only : (g : Conflict) → g ∈ involved → IsInvolved s f place g
  pub all : (g : Conflict) → IsInvolved s f place g → g ∈ involved
  pub distinct : IsDistinct involved
  pub named : (g : Conflict) → g ∈ involved → NamesKeptClause s g

-- The clauses from which a conflict's clause is learned: none at level 0.
pub record AreInvolved (s : View) (f : Conflict) (involved : List Conflict) : Type 0 where
  pub at_zero : current_level s ≡ 0 → involved ≡ []
  pub above : 0 < current_level s → ListsInvolved s f involved

-- The level to backtrack to: that of the second literal, which is the highest of the others, or 0 where there is no second.
abbrev pub IsLevelOf : View → Clause → ℕ → Type 0
IsLevelOf s [] level = level ≡ 0
IsLevelOf s (m ∷ others) level = (level_of s m ≡ level) × ((n : Literal) → n ∈ others → level_of s n ≤ level)

-- The clause that a conflict above level 0 teaches.
pub record IsAsserting (s : View) (f : Conflict) (c : Clause) (level : ℕ) : Type 0 where
  -- each literal is false, none stands twice, and just the first is of the current level
  pub false_now : IsFalse s.trail c
  pub distinct : IsDistinct c
  pub first : Literal
  pub others : Clause
  pub split : c ≡ first ∷ others
  pub current : level_of s first ≡ current_level s
  pub lower : (m : Literal) → m ∈ others → level_of s m < current_level s
  pub second : IsLevelOf s others level
  -- the first is the opposite of the first unique implication point
  pub place : ℕ
  pub point : IsFirstPoint s f place
  pub opposite_is : first ≡ opposite (literal_at s place)

-- the literal is one of a kept clause
abbrev pub IsOfKept : View → Literal → Type 0
IsOfKept s m = (c : Clause) × (c ∈ kept s) × (m ∈ c)

-- The clause that a conflict teaches: it follows from whatever clauses a proof holds, its literals are those of kept clauses,
-- and it is the empty one at level 0.
pub record IsLearned (s : View) (f : Conflict) (c : Clause) (level : ℕ) : Type 0 where
  pub follows : (held : List Clause) → ViewFits held s → Follows held c
  pub of_kept : (m : Literal) → m ∈ c → IsOfKept s m
  pub at_zero : current_level s ≡ 0 → (c ≡ []) × (level ≡ 0)
  pub above : 0 < current_level s → IsAsserting s f c level
