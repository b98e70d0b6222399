-- The steps of a solver, and what they come to.
use Rattle.std.specs.Prelude.{◌≡◌, ℕ, ◌-◌, Bool, true, false, Option, Some, None, List, length}
use Rattle.varisat_theory.specs.promises.Derivations.{Line}
use Rattle.varisat_theory.specs.inside.Outcomes.{Steps}
use Rattle.varisat_theory.specs.promises.Journals.{Entry}
use Rattle.varisat_steps.specs.Traces.{TakesStep}
use Rattle.varisat_proof.specs.promises.Proving.{ProofParts, IsLogged}
use Rattle.varisat_tracer.specs.inside.Tracing.{TracerState, TakesGlobally, CanLog, BreaksProof}
use Rattle.varisat_schedule.specs.CallSteps.{steps_since}
use Rattle.varisat_schedule.specs.Plans.{next_plan}
use Rattle.varisat_search.specs.declared.context.Context.{Context}
use Rattle.varisat_search.specs.declared.error.StepError.{StepError}
use Rattle.varisat_search.specs.declared.error.StepError.TheVariants as step
use Rattle.varisat_search.specs.declared.state.SatState.{SatState}
use Rattle.varisat_search.specs.declared.state.SatState.TheVariants as verdict
use Rattle.varisat_search.specs.AssumptionParts.{AssumptionParts, KeepsAssumptions}
use Rattle.varisat_search.specs.Contexts.{view, IsNotUnsat, IsReady}
use Rattle.varisat_search.specs.Decisions.{SameDecidable}
use Rattle.varisat_search.specs.DueReductions.{BeginsStep}
use Rattle.varisat_search.specs.Progress.{RaisesRank}
use Rattle.varisat_search.specs.Seen.{search_of, outcome_of}
use Rattle.varisat_search.specs.RootSimplified.{FixesByLearning, LearnsAlone}
use Rattle.varisat_search.specs.StepErrors.{step_faults, HasNoRoom}
use Rattle.varisat_solver.specs.promises.Calls.{with_verdict}
use Rattle.varisat_solver.specs.inside.Carried.{named_literals}
use Rattle.varisat_solver.specs.promises.Detaching.{DetachesInTime}
use Rattle.varisat_solver.specs.inside.Detached.{DetachesWhereUnpropagated, HasDetached, IsCalm}
use Rattle.varisat_solver.specs.promises.Journals.{with_entries, LogsMore, BeginsInSteps, EndBy, LogsToProof}
use Rattle.varisat_solver.specs.promises.StepEntries.{LogsInSteps, SpeakOfAdded, HasStayed}
use Rattle.varisat_solver.specs.inside.SinceChange.{GoesOnSince, BeginsWithin, GoesOnWithin}
use Rattle.varisat_solver.specs.inside.Spaces.{Spaces, SpacesFit, FitSome}
use Rattle.varisat_solver.specs.promises.States.{State, Verdict, Unknown}
use Rattle.varisat_solver.specs.inside.Representations.{undecided_spaces, spaces_with, IsValidSolver}

-- what is returned at the verdict, if it is known
abbrev pub answer_at : SatState → Option Bool
answer_at verdict.Unknown = None
answer_at verdict.Sat = Some true
answer_at verdict.Unsat = Some false
answer_at verdict.UnsatUnderAssumptions = Some false

-- What a solver needs so that it can make steps: it is valid, its proof can log, it represents some state, and no verdict is known.
pub record CanSearch {A : Type 0} (p : TracerState) (x : Context A) : Type 0 where
  pub valid : IsValidSolver p.tables x
  pub logs : CanLog p.proof
  pub represents : FitSome (undecided_spaces p.tables p.proof.checker x)
  pub unknown : x.solver_state.sat_state ≡ verdict.Unknown

-- some entries were logged to an open proof
abbrev pub LogsSome : ProofParts → ProofParts → Type 0
LogsSome p q = (given : List Entry) × IsLogged p given q

-- What a step leaves that failed with the error: the target of an open proof has a beginning of its lines behind what it
-- had. That the store is full is said only where it has no room for a clause of all variables, which are as many as before.
pub record FailsStep {A : Type 0} (p q : ProofParts) (x y : Context A) (error : StepError) : Type 0 where
  pub broken : BreaksProof p (step_faults error) q
  pub full : error ≡ step.Full → HasNoRoom y × (length y.assignment.current ≡ length x.assignment.current)

-- When learned clauses may be deleted: before each step whose number is a multiple of the interval. And the number of the next step.
pub record Turn : Type 0 where
  pub interval : ℕ
  pub number : ℕ

-- as it is in the context
abbrev pub turn_of : {A : Type 0} → Context A → Turn
turn_of x = record { interval = x.solver_config.reduce_locals_interval; number = x.schedule.steps }

-- What a search comes to by n steps from a state without a verdict: a verdict or none, and what it logged further, in the proof too. Of
-- the clauses that were added n or fewer count, and n are new, or one less where there is a verdict. None of these names a variable
-- that left before. A core that was found is logged last.
pub record ComesTo (at : Turn) (n : ℕ) (s : State) (p q : ProofParts) (after : Spaces) : Type 0 where
  pub verdict : Verdict
  pub logged : List Entry
  pub more : LogsMore n s.logged logged
  pub adds : verdict ≡ Unknown → LogsInSteps at.interval at.number n s.logged more.entries
  pub stayed : verdict ≡ Unknown → SpeakOfAdded (HasStayed s.logged) more.entries
  pub begins : BeginsInSteps at.interval at.number (n - 1) s.logged more.entries
  pub ends : EndBy verdict more.entries
  pub proof : LogsToProof s.variables s.logged logged p q
  pub fits : SpacesFit after (with_entries logged (with_verdict verdict s))

-- so it does from each state for which the spaces before stand
abbrev pub ComesOn : Turn → ℕ → Spaces → Spaces → ProofParts → ProofParts → Type 0
ComesOn at n before after p q = (s : State) → SpacesFit before s → ComesTo at n s p q after

-- so it does while no verdict is known
abbrev pub ComesOnUndecided : {A : Type 0} → Turn → ℕ → TracerState → Context A → TracerState → Context A → Type 0
ComesOnUndecided at n p x q y =
    ComesOn at n (undecided_spaces p.tables p.proof.checker x)
    (undecided_spaces q.tables q.proof.checker y) p.proof q.proof

-- Where at level 0 literals were still to be propagated, the root level was simplified, and then variables left, unless a
-- clause is false. The solver keeps what it did, and represents the same states, to which more was logged.
pub record DetachesFixed {A : Type 0} (p q : TracerState) (x y : Context A) : Type 0 where
  pub kept : IsValidSolver q.tables y
  pub logs : CanLog q.proof
  pub logged : LogsSome p.proof q.proof
  pub within : GoesOnWithin x y
  pub count : length y.assignment.current ≡ length x.assignment.current
  pub left : DetachesWhereUnpropagated x q.tables (view y)
  -- at level 0 all is propagated, or a clause is false
  pub calm : IsCalm (view y)
  -- if a variable was to leave only while literals of the root level are still to be propagated, none is to leave now, unless a
  -- clause is false
  pub leaves : DetachesInTime p.tables (view x) → HasDetached q.tables (view y)
  pub represents : (at : Turn) → ComesOnUndecided at 0 p x q y

-- Where the step begins at level 0 with literals still to be propagated, variables leave that may: those that have a value then
-- and are not assumed, and hidden ones that no kept clause names; unless a clause is false.
pub record DetachesIfUnpropagated {A : Type 0} (q : TracerState) (x y : Context A) : Type 0 where
  pub reduced : Context A
  pub begins : BeginsStep (λ lines. Unit {0}) x reduced
  pub left : DetachesWhereUnpropagated reduced q.tables (view y)

-- A step has begun, and variables left. The solver keeps what it did, and represents the same states, to which more was logged.
pub record BeginsSolverStep {A : Type 0} (p q : TracerState) (x y : Context A) : Type 0 where
  pub kept : IsValidSolver q.tables y
  pub logs : CanLog q.proof
  pub logged : LogsSome p.proof q.proof
  pub within : BeginsWithin x y
  pub state : y.solver_state ≡ x.solver_state
  pub count : length y.assignment.current ≡ length x.assignment.current
  pub left : DetachesIfUnpropagated q x y
  -- at level 0 all is propagated, or a clause is false
  pub calm : IsCalm (view y)
  pub leaves : DetachesInTime p.tables (view x) → HasDetached q.tables (view y)
  pub represents : ComesOnUndecided (turn_of x) 0 p x q y

-- A step leads from one context to the other, which has a verdict or none, as a tracer that was p takes its lines and the core;
-- and a core that was found is kept over names too.
pub record MakesNamedStep {A : Type 0} (p q : TracerState) (x y : Context A) : Type 0 where
  pub ready : IsReady y
  pub count : length y.assignment.current ≡ length x.assignment.current
  pub decidable : SameDecidable (view x) x.vsids (view y) y.vsids
  pub state : y.solver_state ≡ record x.solver_state { sat_state = y.solver_state.sat_state }
  pub rises : y.solver_state.sat_state ≡ verdict.Unknown → RaisesRank x y
  pub fixes : FixesByLearning x y
  -- names and variables stay
  pub tables : q.tables ≡ p.tables
  -- the assumptions that are left, and the core over solver variables
  pub parts : AssumptionParts
  -- one that begins with no literal of the root level left to be propagated, and after which the search goes on, adds what was
  -- learned by its only line
  pub steps : (lines : List Line)
      × Steps (search_of (view x)) (search_of (view y))
      (outcome_of (view y) parts.failed_core y.solver_state.sat_state) lines
      × LearnsAlone lines x y
      × TakesStep TakesGlobally p lines (outcome_of (view y) parts.failed_core y.solver_state.sat_state) q
  pub assumes : KeepsAssumptions (search_of (view x))
      (outcome_of (view y) parts.failed_core y.solver_state.sat_state) x.assumptions parts
  pub rest : y.assumptions ≡ record parts { user_core = y.assumptions.user_core }
  pub core : y.solver_state.sat_state ≡ verdict.UnsatUnderAssumptions →
      y.assumptions.user_core ≡ named_literals p.tables parts.failed_core

-- A step of the solver was made, from one context to the other, which has a verdict or none: it began, and variables left; then
-- came the conflict step, and the step was counted.
pub record MakesSolverStep {A : Type 0} (p q : TracerState) (x y : Context A) : Type 0 where
  pub mid : TracerState
  pub middle : Context A
  pub begins : BeginsSolverStep p mid x middle
  pub ends : MakesNamedStep mid q middle (record y { schedule = middle.schedule })
  -- what of this the steps of a call need
  pub kept : IsValidSolver q.tables y
  pub logs : CanLog q.proof
  pub logged : LogsSome p.proof q.proof
  pub since : y.solver_state.sat_state ≡ verdict.Unknown → GoesOnSince x y
  pub schedule : y.schedule ≡ next_plan x.solver_config.luby_restart_interval_scale x.schedule
  pub state : y.solver_state ≡ record x.solver_state { sat_state = y.solver_state.sat_state }
  pub count : length y.assignment.current ≡ length x.assignment.current
  pub leaves : DetachesInTime p.tables (view x) → IsNotUnsat y → DetachesInTime q.tables (view y)
  pub represents : ComesOn (turn_of x) 1 (undecided_spaces p.tables p.proof.checker x)
      (spaces_with q.tables q.proof.checker y) p.proof q.proof

-- Steps were made, from one context to the other, until there was a verdict or they were spent. Where none was made nothing changed.
pub record FindsVerdict {A : Type 0} (p q : TracerState) (x y : Context A) (found : Option Bool) : Type 0 where
  pub kept : IsValidSolver q.tables y
  pub logs : CanLog q.proof
  pub state : y.solver_state ≡ record x.solver_state { sat_state = y.solver_state.sat_state }
  pub answer : found ≡ answer_at y.solver_state.sat_state
  pub logged : LogsSome p.proof q.proof
  -- where no variable was to leave but with literals that are still to be propagated, so it is, unless under Unsat
  pub leaves : DetachesInTime p.tables (view x) → IsNotUnsat y → DetachesInTime q.tables (view y)
  pub represents : ComesOn (turn_of x) (steps_since x.schedule y.schedule) (undecided_spaces p.tables p.proof.checker x)
      (spaces_with q.tables q.proof.checker y) p.proof q.proof
  pub still : y.schedule.steps ≡ x.schedule.steps → (y ≡ x) × (q ≡ p)
