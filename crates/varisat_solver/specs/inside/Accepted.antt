-- What becomes of a solver that accepts a clause or a list of assumptions, and which states it represents then.
use Rattle.std.specs.Prelude.{◌≡◌, ℕ, ◌≤◌, false, Option, List, [], ◌∷◌, ◌++◌, map, length}
use Rattle.varisat_theory.specs.promises.Literals.{Literal, Clause}
use Rattle.varisat_theory.specs.promises.Journals.{Entry, Accepts, Assumes}
use Rattle.varisat_search.specs.declared.context.Context.{Context}
use Rattle.varisat_search.specs.declared.error.StepError.{StepError}
use Rattle.varisat_search.specs.declared.error.StepError.TheVariants as step
use Rattle.varisat_search.specs.declared.state.SolverState.{SolverState}
use Rattle.varisat_search.specs.Contexts.{IsNotUnsat}
use Rattle.varisat_search.specs.StepErrors.{step_faults, HasNoRoom}
use Rattle.varisat_tracer.specs.inside.Tracing.{TracerState, CanLog, BreaksProof}
use Rattle.varisat_solver.specs.promises.States.{State, with_variables, Verdict}
use Rattle.varisat_solver.specs.promises.Names.{name_all, through_names}
use Rattle.varisat_solver.specs.promises.Calls.{with_naming, VerdictAfter, append_clause, with_assumptions}
use Rattle.varisat_solver.specs.promises.Journals.{with_entries, LogsStaying, LogsToProof}
use Rattle.varisat_solver.specs.inside.Searches.{LogsSome}
use Rattle.varisat_solver.specs.inside.Spaces.{SpacesFit, FitSome, KeepVariables}
use Rattle.varisat_solver.specs.inside.Representations.{spaces_with, IsValidSolver}

-- the literals over identities, once their names are named
abbrev pub identity_literals : State → List Literal → List Literal
identity_literals s d = map (through_names (name_all d s.naming)) d

-- the verdict may change, and whether the formula is empty
abbrev pub KeepsValidity : SolverState → SolverState → Type 0
KeepsValidity old new = new ≡ record old { sat_state = new.sat_state; formula_is_empty = new.formula_is_empty }

-- Once the names of the clause are in use, the search y has at most as many variables as there are identities.
abbrev pub IsWithinIdentities : {A : Type 0} → Clause → TracerState → Context A → Context A → Type 0
IsWithinIdentities d p x y =
    (s : State) → SpacesFit (spaces_with p.tables p.proof.checker x) s →
    length y.assignment.current ≤ (name_all d s.naming).made

-- The clause was accepted: the journal goes on with it, and then with lines, and so does what a proof logged. Identities that are
-- new have variables then.
abbrev pub RepresentsOnceAccepted : {A : Type 0} → Clause → TracerState → Context A → TracerState → Context A → Type 0
RepresentsOnceAccepted d p x q y =
    (s : State) → SpacesFit (spaces_with p.tables p.proof.checker x) s →
    (v : Verdict) × (logged : List Entry) × (variables : ℕ → Option ℕ)
    × VerdictAfter s.clauses (identity_literals s d) s.verdict v
    × LogsStaying 0 (s.logged ++ Accepts (identity_literals s d) ∷ []) logged
    × KeepVariables s.naming.made s.variables variables × LogsToProof variables s.logged logged p.proof q.proof
    × SpacesFit (spaces_with q.tables q.proof.checker y)
    (with_variables variables
    (with_entries logged (append_clause (identity_literals s d) v (with_naming (name_all d s.naming) s))))

-- The list is assumed in place of the one before, and the journal goes on with it, and so does what a proof logged. Identities
-- that are new have variables then.
abbrev pub RepresentsOnceAssumed : {A : Type 0} → List Literal → TracerState → Context A → TracerState → Context A →
    Type 0
RepresentsOnceAssumed d p x q y =
    (s : State) → SpacesFit (spaces_with p.tables p.proof.checker x) s →
    (variables : ℕ → Option ℕ) × KeepVariables s.naming.made s.variables variables
    × LogsToProof variables s.logged (s.logged ++ Assumes (identity_literals s d) ∷ []) p.proof q.proof
    × SpacesFit (spaces_with q.tables q.proof.checker y)
    (with_variables variables (with_entries (s.logged ++ Assumes (identity_literals s d) ∷ [])
    (with_assumptions (identity_literals s d) (with_naming (name_all d s.naming) s))))

-- What a solver needs so that it can accept a clause: it is valid, its proof can log, it represents some state, and its
-- clauses are not refuted.
pub record CanAccept {A : Type 0} (p : TracerState) (x : Context A) : Type 0 where
  pub valid : IsValidSolver p.tables x
  pub logs : CanLog p.proof
  pub represents : FitSome (spaces_with p.tables p.proof.checker x)
  pub undecided : IsNotUnsat x

-- The clause was accepted. The solver keeps what it did, and represents the states that have the clause, which was logged.
pub record AcceptsUserClause {A : Type 0} (d : Clause) (p : TracerState) (x : Context A) (q : TracerState) (y : Context A)
    : Type 0 where
  pub kept : IsValidSolver q.tables y
  pub logs : CanLog q.proof
  pub logged : LogsSome p.proof q.proof
  pub state : y.solver_state
      ≡ record x.solver_state { sat_state = y.solver_state.sat_state; formula_is_empty = false }
  pub represents : RepresentsOnceAccepted d p x q y

-- What a clause leaves that was not accepted for the error: the target of an open proof has a beginning of its lines behind
-- what it had. That the store is full is said only where it has no room for a clause of all variables, which are at most as
-- many as identities.
pub record FailsClause {A : Type 0} (d : Clause) (p : TracerState) (x : Context A) (q : TracerState) (y : Context A)
    (error : StepError) : Type 0 where
  pub broken : BreaksProof p.proof (step_faults error) q.proof
  pub full : error ≡ step.Full → HasNoRoom y
  pub size : error ≡ step.Full → IsWithinIdentities d p x y

-- The list is assumed. The solver keeps what it did, and represents the states that assume it, and it was logged.
pub record AssumesUserList {A : Type 0} (d : List Literal) (p : TracerState) (x : Context A) (q : TracerState) (y : Context A)
    : Type 0 where
  pub kept : IsValidSolver q.tables y
  pub logs : CanLog q.proof
  pub logged : LogsSome p.proof q.proof
  pub state : KeepsValidity x.solver_state y.solver_state
  pub represents : RepresentsOnceAssumed d p x q y
