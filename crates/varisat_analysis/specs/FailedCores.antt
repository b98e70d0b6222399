-- What is found once an assumption failed.
use Rattle.std.specs.Prelude.{◌≡◌, ℕ, ◌<◌, ◌⊎◌, Bool, List, [], ◌∷◌, length}
use Rattle.varisat_theory.specs.promises.Membership.{◌∈◌, IsDistinct}
use Rattle.varisat_theory.specs.promises.Literals.{Literal, Clause, opposite}
use Rattle.varisat_theory.specs.promises.Propagation.{Conflicts}
use Rattle.varisat_theory.specs.promises.Analysis.{Reached}
use Rattle.varisat_prop.specs.declared.prop.graph.Reason.{Reason}
use Rattle.varisat_prop.specs.declared.prop.graph.Reason.TheVariants as reason
use Rattle.varisat_prop.specs.View.{View, literal_at, decision_at, level_of, ViewFits}
use Rattle.varisat_analysis.specs.Flags.{IsFlagged}
use Rattle.varisat_analysis.specs.Learned.{reason_clause}

-- the literal was decided: it opens a level
abbrev pub IsDecided : View → Literal → Type 0
IsDecided s l = (j : ℕ) × (j < length s.decisions) × (literal_at s (decision_at s j) ≡ l)

-- From the opposite of the failed assumption the reasons of true literals lead back to the literal.
abbrev pub IsReachedFrom : View → Literal → Literal → Type 0
IsReachedFrom s failed l = Reached (failed ∷ []) (reason_clause s) (λ k. k ∈ s.trail) l

-- The list has the failed assumption, and just the decisions that the reasons of its opposite lead back to, each literal once.
pub record ListsFailedCore (s : View) (failed : Literal) (core : List Literal) : Type 0 where
  pub failed_in : failed ∈ core
  pub decided : (l : Literal) → l ∈ core → (l ≡ failed) ⊎ IsDecided s l
  pub reached : (l : Literal) → l ∈ core → (l ≡ failed) ⊎ IsReachedFrom s failed l
  pub complete : (l : Literal) → IsDecided s l → IsReachedFrom s failed l → l ∈ core
  pub distinct : IsDistinct core
  -- propagation from the core over whatever clauses a proof holds comes to a conflict
  pub conflicts : (held : List Clause) → ViewFits held s → Conflicts held core

-- Of the false literals, the opposites that are true above level 0 were flagged, and no other literal.
pub record FlagsCauses (s : View) (lits : List Literal) (old new : List Bool) : Type 0 where
  pub more : (l : Literal) → IsFlagged old l → IsFlagged new l
  pub all : (m : Literal) → m ∈ lits → 0 < level_of s m → IsFlagged new (opposite m)
  pub only : (l : Literal) → IsFlagged new l → IsFlagged old l ⊎ ((opposite l ∈ lits) × (0 < level_of s l))

-- the literal, where no clause made it true
abbrev pub decided_by : Literal → Reason → List Literal
decided_by l reason.Unit = l ∷ []
decided_by l (reason.Binary ms) = []
decided_by l (reason.Long p) = []
