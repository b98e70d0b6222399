-- What inprocessing that is due at a step does to a context: reductions and the collection.
use Rattle.std.specs.Prelude.{◌≡◌, ◌≢◌, ◌*◌, ◌/◌, ◌%◌, ◌<◌, ◌≤◌, ◌++◌, List, [], length}
use Rattle.varisat_theory.specs.promises.Membership.{◌∈◌, ◌⊆◌}
use Rattle.varisat_theory.specs.promises.Literals.{Clause}
use Rattle.varisat_theory.specs.promises.Derivations.{Line, IsPresentAfter}
use Rattle.varisat_clause.specs.Stores.{Store, stored_clauses, HoldsClauses}
use Rattle.varisat_clause.specs.Collected.{IsCollected}
use Rattle.varisat_clause.specs.Reductions.{ReducesLocals, mids_reduced}
use Rattle.varisat_search.specs.declared.context.Context.{Context}
use Rattle.varisat_search.specs.Contexts.{view, IsReady}
use Rattle.varisat_search.specs.Frames.{ChangesPlaces, ChangesRestarted, KeepsVariables}
use Rattle.varisat_search.specs.Decisions.{SameDecidable}
use Rattle.varisat_analysis.specs.HeaderChanges.{ChangesHeaders}
use Rattle.varisat_analysis.specs.Reductions.{reasons_marked, Discards}
use Rattle.varisat_analysis.specs.Collections.{Repacks}
use Rattle.varisat_search.specs.Progress.{ProvesTo, StepsTo, outcome_at}
use Rattle.varisat_search.specs.Restarts.{KeepsAssignment, RestartsByPolicy, SavesUndone, RestartsAndRemembers}
use Rattle.varisat_search.specs.AssumptionParts.{KeepsAssumptions}
use Rattle.varisat_search.specs.Seen.{search_of}
use Rattle.varisat_search.specs.declared.state.SatState.TheVariants as verdict
use Rattle.varisat_prop.specs.View.{kinds}
use Rattle.varisat_schedule.specs.CallSteps.{IsPlannedStep}
use Rattle.varisat_search.specs.RootSimplified.{IsRootUnpropagated, KeepsFixed, GoesOnByLines, SimplifiesRootFirst}
use Rattle.varisat_search.specs.Deletions.{unmarked_deletions}

-- the store holds the context's clauses, and those that are reasons are marked
abbrev pub MarksReasons : {A : Type 0} → Context A → Store → Type 0
MarksReasons x marked =
    HoldsClauses marked (length x.clause_alloc.words)
    (reasons_marked x.assignment.current x.impl_graph.nodes.items (stored_clauses x.clause_alloc))

-- Half of the Local clauses go, but for reasons. The lines delete these clauses, in the order in which they go.
pub record DropsLocals {A : Type 0} (lines : List Line) (x y : Context A) : Type 0 where
  pub marked : Store
  pub marks : MarksReasons x marked
  pub reduces : ReducesLocals marked y.clause_alloc
  pub deletes : lines ≡ unmarked_deletions (stored_clauses marked) (length reduces.order / 2) reduces.order
  pub discards : Discards (view x) (view y)

-- At each step whose number is a multiple of the interval Local clauses go, and at others nothing changes.
pub record ReducesLocalsIfDue {A : Type 0} (lines : List Line) (x y : Context A) : Type 0 where
  pub drops : x.schedule.steps % x.solver_config.reduce_locals_interval ≡ 0 → DropsLocals lines x y
  pub stays : x.schedule.steps % x.solver_config.reduce_locals_interval ≢ 0 → (y ≡ x) × (lines ≡ [])

-- Mid clauses become Local or lose their flag, and nothing but headers of clauses changes.
pub record ReducesMids {A : Type 0} (x y : Context A) : Type 0 where
  pub reduced : HoldsClauses y.clause_alloc (length x.clause_alloc.words) (mids_reduced (stored_clauses x.clause_alloc))
  pub headers : ChangesHeaders (view x) (view y)

-- At each step whose number is a multiple of the interval Mid clauses are reduced, and at others nothing changes.
pub record ReducesMidsIfDue {A : Type 0} (x y : Context A) : Type 0 where
  pub reduces : x.schedule.steps % x.solver_config.reduce_mids_interval ≡ 0 → ReducesMids x y
  pub stays : x.schedule.steps % x.solver_config.reduce_mids_interval ≢ 0 → y ≡ x

-- more than half of the store's words are garbage
abbrev pub IsCollectionDue : {A : Type 0} → Context A → Type 0
IsCollectionDue x = length x.clause_alloc.words < 2 * x.clause_db.garbage

-- Where that is so the garbage is collected, and else nothing changes.
pub record CollectsIfDue {A : Type 0} (x y : Context A) : Type 0 where
  pub collected : IsCollectionDue x → IsCollected y.clause_alloc y.clause_db (stored_clauses x.clause_alloc)
  pub repacks : IsCollectionDue x → Repacks (view x) (view y)
  pub stays : 2 * x.clause_db.garbage ≤ length x.clause_alloc.words → y ≡ x

-- The search can go on as it was, and what goes from the proof goes by lines for which `are` holds.
pub record KeepsSearch {A : Type 0} (are : List Line → Type 0) (x y : Context A) : Type 0 where
  pub ready : IsReady y
  pub assigned : KeepsAssignment (view x) (view y)
  pub proves : (lines : List Line) × ProvesTo lines x y × are lines
  pub decidable : SameDecidable (view x) x.vsids (view y) y.vsids

-- there are no lines
abbrev pub NoLines : List Line → Type 0
NoLines lines = lines ≡ []

-- of each clause that is held before the lines a part is held after them
abbrev pub KeepsPartsBy : List Line → Type 0
KeepsPartsBy lines = (held after : List Clause) → IsPresentAfter held lines after →
    (c : Clause) → c ∈ held → (d : Clause) × (d ∈ after) × (d ⊆ c)

-- The contract of all inprocessing: it does what `does` says, and the search goes on, by lines for which `are` holds.
pub record Inprocesses {A : Type 0} (does : List Line → Context A → Context A → Type 0) (are : List Line → Type 0)
    (x y : Context A) : Type 0 where
  -- unless Local clauses are to be reduced a part of each clause stays in the proof
  pub goes_on : GoesOnByLines
      (λ lines. does lines x y
      × (x.schedule.steps % x.solver_config.reduce_locals_interval ≢ 0 → KeepsPartsBy lines) × are lines) x y
  -- a new literal of level 0 is still to be propagated
  pub fixes : KeepsFixed (view x) (view y)
  pub unpropagated : IsRootUnpropagated (view x) → IsRootUnpropagated (view y)

-- The one and then the other, each by its lines.
pub record InTurn {A : Type 0} (first next : List Line → Context A → Context A → Type 0) (lines : List Line)
    (x z : Context A) : Type 0 where
  pub between : Context A
  pub front : List Line
  pub back : List Line
  pub parts : lines ≡ front ++ back
  pub begins : first front x between
  pub ends : next back between z

-- All of it, in the order of `inprocess_if_due`: this is the list to which more is added.
abbrev pub InprocessesIfDue : {A : Type 0} → List Line → Context A → Context A → Type 0
InprocessesIfDue {A} =
    InTurn ReducesLocalsIfDue
    (InTurn (λ lines x y. ReducesMidsIfDue x y × NoLines lines)
    (λ lines x y. CollectsIfDue x y × NoLines lines))

-- A step begins: a restart down to the last assumption, by the policy, and then inprocessing, by lines for which
-- `are` holds.
pub record BeginsStep {A : Type 0} (are : List Line → Type 0) (x z : Context A) : Type 0 where
  pub begun : Context A
  pub restarts : RestartsByPolicy x.solver_config.restart_glue x.schedule x.assumptions.levels (view x) (view begun)
  pub saves : SavesUndone x.assumptions.levels (view x) (view begun) x.assignment.last begun.assignment.last
  pub begins : ChangesRestarted x begun
  pub decidable : SameDecidable (view x) x.vsids (view begun) begun.vsids
  pub decay : begun.vsids.decay ≡ x.vsids.decay
  pub inprocesses : Inprocesses InprocessesIfDue are begun z
  pub rest : ChangesPlaces begun z

-- A step begins with a restart down to the last assumption, by the policy; then comes inprocessing; then, at level
-- 0, the root level is simplified; then lines lead from what is left to the search after the step. The lines are these, in
-- turn.
pub record GoesBySchedule {A : Type 0} (lines : List Line) (x z : Context A) : Type 0 where
  pub begun : Context A
  pub inprocessed : Context A
  pub restarts : RestartsByPolicy x.solver_config.restart_glue x.schedule x.assumptions.levels (view x) (view begun)
  pub begins : ChangesRestarted x begun
  pub first : List Line
  pub rest : List Line
  pub parts : lines ≡ first ++ rest
  pub inprocesses : InprocessesIfDue first begun inprocessed
  pub proves : ProvesTo first begun inprocessed
  pub simplifies_root : SimplifiesRootFirst rest inprocessed z
  pub steps : StepsTo (λ ls. ls ≡ rest) inprocessed z

-- such a step was made, by lines for which `are` holds
abbrev pub StepsBySchedule : {A : Type 0} → (List Line → Type 0) → Context A → Context A → Type 0
StepsBySchedule are x y = StepsTo (λ lines. GoesBySchedule lines x y × are lines) x y

-- Such a step was made. Unless the answer is known the trail's rank rises; variables stay, and so do assumptions but for
-- those that are fixed, and what is remembered of values.
pub record MakesScheduledStep {A : Type 0} (are : List Line → Type 0) (x y : Context A) : Type 0 where
  pub steps : StepsBySchedule are x y
  pub rises : y.solver_state.sat_state ≡ verdict.Unknown →
      IsPlannedStep (length (view x).values) x.schedule (kinds (view x)) (kinds (view y))
  pub keeps : KeepsVariables x y
  pub assumes : KeepsAssumptions (search_of (view x)) (outcome_at y) x.assumptions y.assumptions
  pub last : RestartsAndRemembers x.solver_config.restart_glue x.schedule x.assumptions.levels (view x)
      x.assignment.last y.assignment.last
