-- Assumptions: what a search keeps of them, and what its steps make of the list.
use Rattle.std.specs.Prelude.{◌≡◌, ◌≢◌, ℕ, ◌<◌, ◌≤◌, ◌⊎◌, nat_lt, if◌then◌else◌, Bool, Option, List, [], length, slice_index_or, MatchOption}
use Rattle.varisat_theory.specs.promises.Membership.{◌∈◌, ◌⊆◌}
use Rattle.varisat_theory.specs.promises.Literals.{Literal, Clause, Assignment, variable_of, SatisfiesAll, MakesTrue}
use Rattle.varisat_theory.specs.promises.Searches.{Search, Fits}
use Rattle.varisat_theory.specs.inside.Outcomes.{SearchOutcome, Sat, UnsatUnder}
use Rattle.varisat_prop.specs.Parts.{IsMadeTrue}
use Rattle.varisat_prop.specs.View.{View, literal_at, decision_at, ViewFits}
use Rattle.varisat_prop.specs.Changes.{decided_on}
use Rattle.varisat_search.specs.declared.state.SatState.{SatState}
use Rattle.varisat_search.specs.declared.state.SatState.TheVariants as verdict
use Rattle.varisat_search.specs.declared.assumptions.EnqueueAssumption.{EnqueueAssumption}
use Rattle.varisat_search.specs.declared.assumptions.EnqueueAssumption.TheVariants as enqueue
use Rattle.varisat_analysis.specs.FailedCores.{ListsFailedCore}
use Rattle.varisat_search.specs.Steps.{IsFree, IsTotal}

-- What a search keeps of assumptions.
pub record AssumptionParts : Type 0 where
  -- the assumptions that are still to be decided or stand decided, without those that were found to be implied
  pub working : List Literal
  -- for how many of them there is a level
  pub levels : ℕ
  -- those that can't be true together, where some were found
  pub failed_core : List Literal
  -- the assumptions and the core as their user names them, which the search only keeps
  pub user : List Literal
  pub user_core : List Literal

-- before the first list
abbrev pub no_assumptions : AssumptionParts
no_assumptions = record { working = []; levels = 0; failed_core = []; user = []; user_core = [] }

-- these are assumed from now on
abbrev pub newly_assumed : List Literal → List Literal → AssumptionParts
newly_assumed user lits = record no_assumptions { working = lits; user = user }

-- no more than so many levels are left
abbrev pub with_levels_to : ℕ → AssumptionParts → AssumptionParts
with_levels_to level x = record x { levels = if nat_lt level x.levels then level else x.levels }

-- The first levels of the search are those of the first assumptions, in order. Another literal is decided only once each assumption has a level.
pub record HasAssumptions (s : View) (x : AssumptionParts) : Type 0 where
  pub reached : x.levels ≤ length s.decisions
  pub listed : x.levels ≤ length x.working
  pub decided : (j : ℕ) → j < x.levels → literal_at s (decision_at s j) ≡ slice_index_or x.working j 0
  pub first : (x.levels ≡ length s.decisions) ⊎ (x.levels ≡ length x.working)
  pub in_range : (l : Literal) → l ∈ x.working → variable_of l < length s.values

-- the verdict once other literals are assumed
abbrev pub assumed_state : SatState → SatState
assumed_state verdict.Unknown = verdict.Unknown
assumed_state verdict.Sat = verdict.Unknown
assumed_state verdict.Unsat = verdict.Unsat
assumed_state verdict.UnsatUnderAssumptions = verdict.Unknown

-- Of the assumptions some may have been taken out, which are true wherever the clauses and the others are satisfied. An
-- assignment that was found makes the others true, and a core is one of assumptions, and not empty.
pub record KeepsAssumptions (s : Search) (v : SearchOutcome) (x y : AssumptionParts) : Type 0 where
  pub user : y.user ≡ x.user
  pub user_core : y.user_core ≡ x.user_core
  pub part : y.working ⊆ x.working
  pub implied : (held : List Clause) → Fits held s → (a : Assignment) → SatisfiesAll a held → MakesTrue a y.working →
      MakesTrue a x.working
  pub model : (found : Assignment) → v ≡ Sat found → MakesTrue found y.working
  pub core : (c : List Literal) → v ≡ UnsatUnder c → (c ⊆ x.working) × (c ≢ [])

-- Of the assumptions some were taken out, which are true wherever the clauses that a proof holds and the others are satisfied.
pub record TakesOutImplied (s : View) (x y : AssumptionParts) : Type 0 where
  pub user : y.user ≡ x.user
  pub user_core : y.user_core ≡ x.user_core
  pub part : y.working ⊆ x.working
  pub implied : (held : List Clause) → ViewFits held s → (a : Assignment) → SatisfiesAll a held →
      MakesTrue a y.working → MakesTrue a x.working

-- Some assumption is false, and the core is one of assumptions.
abbrev pub HasFailed : View → AssumptionParts → Type 0
HasFailed s x = (failed : Literal) × ListsFailedCore s failed x.failed_core × (x.failed_core ⊆ x.working)

-- nothing is left to decide, and each assumption has its level
abbrev pub EndsAssumed : View → AssumptionParts → Type 0
EndsAssumed s x = IsTotal s × (x.levels ≡ length x.working)

-- The assumption of the level was taken out as long as it was true; the last one took its place.
pub record TakesOutTrue (values : List (Option Bool)) (level : ℕ) (x y : AssumptionParts) : Type 0 where
  pub rest : y ≡ record x { working = y.working }
  pub part : y.working ⊆ x.working
  pub gone : (l : Literal) → l ∈ x.working → (l ∈ y.working) ⊎ IsMadeTrue values l
  pub before : (j : ℕ) → j < level → slice_index_or y.working j 0 ≡ slice_index_or x.working j 0
  pub long : level ≤ length x.working → level ≤ length y.working
  pub none : length x.working ≤ level → y.working ≡ x.working

-- the level's assumption, which isn't true, or none where none is left for the level
abbrev pub IsNextAssumption : List (Option Bool) → ℕ → List Literal → Option Literal → Type 0
IsNextAssumption values level working next =
    MatchOption next (length working ≤ level)
    (λ l. (level < length working) × (l ≡ slice_index_or working level 0) × (IsMadeTrue values l → ⊥))

-- What comes of the next assumption that isn't true: there is none, it is decided, or it is false.
abbrev pub ComesToNext : View → View → AssumptionParts → EnqueueAssumption → Type 0
ComesToNext s t x enqueue.Done = (t ≡ s) × (x.levels ≡ length x.working)
ComesToNext s t x enqueue.Enqueued = (l : Literal) × IsFree s l × (t ≡ decided_on s l)
ComesToNext s t x enqueue.Conflict = (t ≡ s) × HasFailed t x
