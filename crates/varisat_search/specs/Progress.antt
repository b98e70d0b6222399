-- What a step of the search comes to, from one context to the next.
use Rattle.std.specs.Prelude.{◌≡◌, ℕ, ◌<◌, ◌≤◌, ◌⊎◌, List, [], ◌∷◌, length}
use Rattle.varisat_theory.specs.promises.Literals.{Clause}
use Rattle.varisat_theory.specs.promises.Derivations.{Line, Add}
use Rattle.varisat_theory.specs.inside.Outcomes.{SearchOutcome, Proves, Steps}
use Rattle.varisat_theory.specs.inside.Rank.{rank}
use Rattle.varisat_prop.specs.View.{kinds}
use Rattle.varisat_search.specs.declared.context.Context.{Context}
use Rattle.varisat_search.specs.declared.state.SatState.TheVariants as verdict
use Rattle.varisat_search.specs.AssumptionParts.{KeepsAssumptions}
use Rattle.varisat_search.specs.Contexts.{view, IsReady}
use Rattle.varisat_search.specs.Frames.{KeepsVariables}
use Rattle.varisat_search.specs.Seen.{search_of, outcome_of}
use Rattle.varisat_search.specs.Steps.{Remembers}

-- what the context's verdict says, with the model or the core that was found
abbrev pub outcome_at : {A : Type 0} → Context A → SearchOutcome
outcome_at x = outcome_of (view x) x.assumptions.failed_core x.solver_state.sat_state

-- the lines lead from the search to the next one
abbrev pub ProvesTo : {A : Type 0} → List Line → Context A → Context A → Type 0
ProvesTo lines x y = Proves 0 (search_of (view x)) (search_of (view y)) lines

-- lines for which `are` holds lead from the search to the next one, with its verdict
abbrev pub StepsTo : {A : Type 0} → (List Line → Type 0) → Context A → Context A → Type 0
StepsTo are x y = (lines : List Line) × Steps (search_of (view x)) (search_of (view y)) (outcome_at y) lines × are lines

-- there is one line, and it adds a clause
abbrev pub AddOne : List Line → Type 0
AddOne lines = (c : Clause) × (lines ≡ Add c ∷ [])

-- so it is where the search goes on from the context
abbrev pub AddOneIfUnknown : {A : Type 0} → List Line → Context A → Type 0
AddOneIfUnknown lines y = y.solver_state.sat_state ≡ verdict.Unknown → AddOne lines

-- the trail's rank rises, over each number of variables that bounds the first trail
abbrev pub RaisesRank : {A : Type 0} → Context A → Context A → Type 0
RaisesRank x y = (n : ℕ) → length x.trail.literals ≤ n → rank n (kinds (view x)) < rank n (kinds (view y))

-- A step leads to a search that is ready again, by lines for which `are` holds, over the same variables. Where it goes on the rank
-- rises. Of the state only the verdict changes.
pub record GoesAStep {A : Type 0} (are : List Line → Type 0) (x y : Context A) : Type 0 where
  pub ready : IsReady y
  pub steps : StepsTo are x y
  pub rises : y.solver_state.sat_state ≡ verdict.Unknown → RaisesRank x y
  pub keeps : KeepsVariables x y
  pub state : y.solver_state ≡ record x.solver_state { sat_state = y.solver_state.sat_state }

-- The search learned from a conflict, by lines for which `are` holds.
pub record IsStepFurther {A : Type 0} (are : List Line → Type 0) (x y : Context A) : Type 0 where
  pub goes : GoesAStep are x y
  pub known : (y.solver_state.sat_state ≡ verdict.Unknown) ⊎ (y.solver_state.sat_state ≡ verdict.Unsat)
  pub assumptions : y.assumptions ≡ record x.assumptions { levels = y.assumptions.levels }

-- A step was made: lines for which `are` holds lead to the search after it, and what is remembered and assumed fits it.
pub record MakesStep {A : Type 0} (are : List Line → Type 0) (x y : Context A) : Type 0 where
  pub goes : GoesAStep are x y
  pub assumes : KeepsAssumptions (search_of (view x)) (outcome_at y) x.assumptions y.assumptions
  pub last : Remembers (view x) x.assignment.last y.assignment.last
