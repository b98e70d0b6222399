-- What conflict analysis marks on its way to the learned clause.
use Rattle.std.specs.Prelude.{◌≡◌, ℕ, zero, suc, ◌+◌, ◌<◌, ◌≤◌, ◌⊎◌, Bool, true, false, ◌&&◌, nat_eq, List, [], ◌∷◌, ◌++◌, slice_index_or, length}
use Rattle.varisat_theory.specs.promises.Membership.{◌∈◌, ◌⊆◌, IsDistinct}
use Rattle.varisat_theory.specs.promises.Literals.{Literal, Clause, opposite, variable_of}
use Rattle.varisat_theory.specs.promises.Propagation.{Follows}
use Rattle.varisat_prop.specs.declared.prop.graph.Conflict.{Conflict}
use Rattle.varisat_clause.specs.Stores.{IsSound}
use Rattle.varisat_clause.specs.Collected.{live_clauses}
use Rattle.varisat_prop.specs.Changes.{causes_of, IsConflicting}
use Rattle.varisat_prop.specs.View.{View, literal_at, node_at, node_of, level_of, IsOnTrailBefore, WellFormed, PropagatedBeforeDecisions, ViewFits}
use Rattle.varisat_analysis.specs.Flags.{IsFlagged}
use Rattle.varisat_analysis.specs.Bumps.{literals_among, AreVariablesAbove}
use Rattle.varisat_analysis.specs.declared.analyze_conflict.Parts.{Parts}
use Rattle.varisat_analysis.specs.declared.analyze_conflict.Scratch.{Scratch}
use Rattle.varisat_analysis.specs.Learned.{current_level, IsOfCurrentLevel, names_of, IsFirstPoint, ListsInvolved, IsAsserting, IsOfKept}

-- The search that analysis reads is a well-formed one, with the clauses of this sound store and these nodes, literals and decisions.
pub record Sees {A : Type 0} (s : View) (parts : Parts A) : Type 0 where
  pub well : WellFormed s
  pub sound : IsSound parts.clause_alloc.now
  pub clauses_are : live_clauses parts.clause_alloc.now ≡ s.clauses
  pub nodes_are : parts.impl_graph.now.nodes.items ≡ s.nodes
  pub trail_is : parts.trail.now.literals ≡ s.trail
  pub decisions_are : parts.trail.now.decisions ≡ s.decisions

-- Analysis sees the search, and has a flag for each variable.
pub record CanMark {A : Type 0} (s : View) (parts : Parts A) (flags : List Bool) : Type 0 where
  pub sees : Sees s parts
  pub flags_are : length flags ≡ length s.nodes

-- a literal that is not to be marked: it is of level 0, or its variable is marked
abbrev pub IsPassedOver : View → List Bool → Literal → Type 0
IsPassedOver s flags l = (level_of s l ≡ 0) ⊎ (slice_index_or flags (variable_of l) false ≡ true)

-- a literal that is to be marked, and its level: that is above 0, and its variable has a flag and is not marked
abbrev pub IsToMark : View → List Bool → Literal → ℕ → Type 0
IsToMark s flags l level =
    (level ≡ level_of s l) × (0 < level) × (slice_index_or flags (variable_of l) false ≡ false)
    × (variable_of l < length flags)

-- A conflict above level 0, where each level began with propagation at its end.
pub record IsDeepConflict (s : View) (f : Conflict) : Type 0 where
  pub settled : PropagatedBeforeDecisions s
  pub conflict : IsConflicting s f
  pub deep : 0 < current_level s

-- what analysis writes
pub record Marking : Type 0 where
  -- the clause that becomes the learned one, and the names of the clauses that it came from
  pub clause : Clause
  pub involved : List Conflict
  -- for each variable whether it is marked; those that resolution marked, and those that minimization did
  pub flags : List Bool
  pub met : List ℕ
  pub to_clean : List ℕ
  -- literals whose reasons are still to be looked at
  pub stack : List Literal

-- what is in the scratch space, with these flags
abbrev pub marking : {A : Type 0} → Scratch A → List Bool → Marking
marking scratch flags =
    record {
      clause = scratch.clause.items;
      involved = scratch.involved.items;
      flags = flags;
      met = scratch.met.items;
      to_clean = scratch.to_clean.items;
      stack = scratch.stack.items;
    }

-- no variable is marked, and no clause is begun
pub record IsClean (x : Marking) : Type 0 where
  pub unmarked : (v : ℕ) → slice_index_or x.flags v false ≡ false
  pub clause : x.clause ≡ []
  pub involved : x.involved ≡ []
  pub met : x.met ≡ []
  pub to_clean : x.to_clean ≡ []

-- Analysis may begin: it has a flag for each variable, there is a conflict above level 0, and nothing is marked.
pub record MayBegin {A : Type 0} (s : View) (parts : Parts A) (f : Conflict) (x : Marking) : Type 0 where
  pub can : CanMark s parts x.flags
  pub conflict : IsDeepConflict s f
  pub clean : IsClean x

-- each marked variable is listed, and each listed one has a flag
pub record MarksAreListed (x : Marking) : Type 0 where
  pub marked : (v : ℕ) → IsFlagged x.flags v → (v ∈ x.met) ⊎ (v ∈ x.to_clean)
  pub met : (v : ℕ) → v ∈ x.met → v < length x.flags
  pub listed : (v : ℕ) → v ∈ x.to_clean → v < length x.flags

-- the literal is false, at a level above 0 and below the current one, and one of a kept clause
pub record IsLower (s : View) (m : Literal) : Type 0 where
  pub false_now : opposite m ∈ s.trail
  pub above : 0 < level_of s m
  pub below : level_of s m < current_level s
  pub of_kept : IsOfKept s m

-- The variable is that of a literal of the clause and was met, or that of a literal of the current level before place i.
pub data IsMarkOf (s : View) (i : ℕ) (x : Marking) (v : ℕ) : Type 0 where
  OfClause : (m : Literal) → m ∈ x.clause → variable_of m ≡ v → v ∈ x.met → IsMarkOf s i x v
  OfCurrentLevel : (k : ℕ) → k < i → IsOfCurrentLevel s k → variable_of (literal_at s k) ≡ v → IsMarkOf s i x v

-- The clause's literals are false, of levels between 0 and the current one. The marked variables are theirs, which were met,
-- and some of the current level that stand before place i.
pub record Marks (s : View) (i : ℕ) (x : Marking) : Type 0 where
  pub lower : (m : Literal) → m ∈ x.clause → IsLower s m
  pub marked : (m : Literal) → m ∈ x.clause → IsFlagged x.flags (variable_of m)
  pub distinct : IsDistinct x.clause
  pub met : (v : ℕ) → v ∈ x.met → v < length s.nodes
  pub listed : (v : ℕ) → v ∈ x.to_clean → v < length s.nodes
  pub known : (v : ℕ) → IsFlagged x.flags v → IsMarkOf s i x v

-- one where it holds, to count by
abbrev pub one_if : Bool → ℕ
one_if false = 0
one_if true = 1

-- the literal at the place is of the current level, and is marked
abbrev pub is_open : View → List Bool → ℕ → Bool
is_open s flags k =
    nat_eq (node_at s k).level (current_level s) && slice_index_or flags (variable_of (literal_at s k)) false

-- how many of the first i literals are of the current level and marked
abbrev pub open_below : View → List Bool → ℕ → ℕ
open_below s flags zero = 0
open_below s flags (suc i) = open_below s flags i + one_if (is_open s flags i)

-- the literals' opposites stand before the place
abbrev pub AreFalseBefore : View → ℕ → List Literal → Type 0
AreFalseBefore s i lits = (m : Literal) → m ∈ lits → IsOnTrailBefore s i (opposite m)

-- the literals are those of kept clauses
abbrev pub AreOfKept : View → List Literal → Type 0
AreOfKept s lits = (m : Literal) → m ∈ lits → IsOfKept s m

-- The variables that were met since are those of the literals above level 0 that were not marked, each once.
pub record MeetsNew (s : View) (lits : List Literal) (x y : Marking) : Type 0 where
  pub since : List ℕ
  pub longer : y.met ≡ x.met ++ since
  pub distinct : IsDistinct since
  pub only : (v : ℕ) → v ∈ since → (l : Literal) × (l ∈ lits) × (0 < level_of s l) × (variable_of l ≡ v)
  pub fresh : (v : ℕ) → v ∈ since → slice_index_or x.flags v false ≡ false
  pub listed : (v : ℕ) → IsFlagged y.flags v → IsFlagged x.flags v ⊎ (v ∈ since)

-- False literals were marked, those above level 0 in so far as they weren't, and joined the clause where they are below the
-- current level. As many as `count` of the current level are new.
pub record AddsMarks (s : View) (lits : List Literal) (count : ℕ) (x y : Marking) : Type 0 where
  pub more : (v : ℕ) → IsFlagged x.flags v → IsFlagged y.flags v
  pub only : (v : ℕ) → IsFlagged y.flags v → IsFlagged x.flags v ⊎ ((m : Literal) × (m ∈ lits) × (variable_of m ≡ v))
  pub all : (m : Literal) → m ∈ lits → 0 < level_of s m → IsFlagged y.flags (variable_of m)
  pub longer : x.clause ⊆ y.clause
  pub marks : (i : ℕ) → AreFalseBefore s i lits → AreOfKept s lits → i ≤ length s.trail → Marks s i x → Marks s i y
  pub counted : (i : ℕ) → AreFalseBefore s i lits → i ≤ length s.trail →
      open_below s y.flags i ≡ open_below s x.flags i + count
  pub met : MeetsNew s lits x y
  pub involved : y.involved ≡ x.involved

-- The literal's reason was listed, and the other literals of the reason added.
pub record AddsReason (s : View) (l : Literal) (count : ℕ) (x y : Marking) : Type 0 where
  pub listed : y.involved ≡ x.involved ++ names_of l (node_of s l).reason
  pub adds : AddsMarks s (causes_of s.clauses (node_of s l).reason) count (record x { involved = y.involved }) y

-- The clause that is left of the conflict's clause, once it was resolved down to the first unique implication point.
pub record IsResolved (s : View) (f : Conflict) (first : Literal) (x : Marking) : Type 0 where
  pub place : ℕ
  pub point : IsFirstPoint s f place
  pub opposite_is : first ≡ opposite (literal_at s place)
  pub follows : (held : List Clause) → ViewFits held s → Follows held (first ∷ x.clause)
  pub marks : Marks s 0 x
  pub involved : ListsInvolved s f x.involved
  pub met : AreVariablesAbove s.nodes (literals_among s.clauses x.involved) x.met

-- What minimization leaves of the literals below the current level: the clause with the first literal follows where it did before.
pub record IsMinimized (s : View) (others left : Clause) : Type 0 where
  pub part : left ⊆ others
  pub distinct : IsDistinct others → IsDistinct left
  pub follows : (first : Literal) (held : List Clause) → ViewFits held s → Follows held (first ∷ others) →
      Follows held (first ∷ left)

-- The clause was minimized; what was marked meanwhile is listed too.
pub record Minimizes (s : View) (x y : Marking) : Type 0 where
  pub minimized : IsMinimized s x.clause y.clause
  pub cleaned : MarksAreListed y
  pub involved : y.involved ≡ x.involved
  pub met : y.met ≡ x.met

-- What a conflict above level 0 teaches, and from which clauses.
pub record Teaches (s : View) (f : Conflict) (c : Clause) (involved : List Conflict) (level : ℕ) : Type 0 where
  pub follows : (held : List Clause) → ViewFits held s → Follows held c
  pub of_kept : AreOfKept s c
  pub asserting : IsAsserting s f c level
  pub involves : ListsInvolved s f involved
