-- What the calls of a checker return, and what they make of it.
use Rattle.std.specs.Prelude.{◌≡◌, ◌≢◌, ℕ, suc, ◌+◌, List, [], ◌∷◌, ◌++◌, length, take, map, Vec, Bool, true, false, Some, None, Result, Ok, Err}
use Rattle.varisat_theory.specs.promises.Membership.{◌∈◌}
use Rattle.varisat_theory.specs.promises.Literals.{Literal, Clause, IsSatisfiable, IsSatisfiableWith}
use Rattle.varisat_theory.specs.promises.Propagation.{Conflicts}
use Rattle.varisat_theory.specs.promises.Derivations.{Line, Add, Delete, Derives}
use Rattle.varisat_plain.specs.promises.Checking.{IsWrong}
use Rattle.varisat_theory.specs.promises.Held.{without}
use Rattle.varisat_formula.specs.declared.dimacs.error.DimacsErrorKind.TheVariants as kind
use Rattle.varisat_formula.specs.promises.Dimacs.{Reading}
use Rattle.varisat_formula.specs.promises.Streams as streams
use Rattle.varisat_formula.specs.promises.Streams.{Input, HasEnded}
use Rattle.varisat_formula.specs.promises.Parsed.{GivesReading}
use Rattle.varisat_lines.specs.declared.format.ProofFormat.{ProofFormat}
use Rattle.varisat_steps.specs.declared.step.ProofStep.{ProofStep}
use Rattle.varisat_steps.specs.declared.step.ProofStep.TheVariants.{AtClause, UnitClauses, DeleteClause, DeleteVar, FailedAssumptions}
use Rattle.varisat_lines.specs.declared.format.Encoding.TheVariants.{Text}
use Rattle.varisat_proof.specs.declared.checker.error.CheckVerdict.{CheckVerdict}
use Rattle.varisat_proof.specs.declared.checker.error.CheckVerdict.TheVariants.{Refutation}
use Rattle.varisat_proof.specs.declared.checker.marked.MarkedReport.{MarkedReport}
use Rattle.varisat_proof.specs.declared.checker.error.CheckerError.{CheckerError}
use Rattle.varisat_proof.specs.declared.checker.error.CheckerError.TheVariants.{CheckFailed, NoSuchClause, CoreNotAssumed, Parse, Io, OutOfMemory, Dimacs, Spent}
use Rattle.varisat_lines.specs.promises.Steps.{step_lines}
use Rattle.varisat_proof.specs.promises.Results.{IsResult}
use Rattle.varisat_proof.specs.promises.Marked.{MarkedLog, nothing_logged, state_of, IsCheckOf}

-- the present clauses, and whether the checker is spent
pub record CheckerState : Type 0 where
  pub clauses : List Clause
  pub spent : Bool

-- a checker with one clause more
abbrev pub with_clause : CheckerState → Clause → CheckerState
with_clause c clause = record c { clauses = c.clauses ++ clause ∷ [] }

-- A call is refused: by a spent checker, which stays as it is, or as memory runs out, which spends it.
abbrev pub IsRefusal : CheckerState → CheckerError → CheckerState → Type 0
IsRefusal old OutOfMemory new = (old.spent ≡ false) × (new.spent ≡ true)
IsRefusal old Spent new = (old.spent ≡ true) × (new ≡ old)
IsRefusal old error new = ⊥

-- the present clauses become these, and nothing else changes
pub record Becomes (old : CheckerState) (clauses : List Clause) (new : CheckerState) : Type 0 where
  pub usable : old.spent ≡ false
  pub now : new ≡ record old { clauses = clauses }

-- the present clauses become these, or the call is refused
abbrev pub BecomesOrRefuses : CheckerState → List Clause → Result (Unit {0}) CheckerError → CheckerState → Type 0
BecomesOrRefuses old clauses (Ok u) new = Becomes old clauses new
BecomesOrRefuses old clauses (Err e) new = IsRefusal old e new

-- after these a checker is spent
abbrev pub spends : CheckerError → Bool
spends (Parse offset) = true
spends (Io cause) = true
spends OutOfMemory = true
spends error = false

-- the source failed
abbrev pub is_io : CheckerError → Bool
is_io (Io cause) = true
is_io error = false

-- 1. Steps.
-- what a step that is taken makes of the present clauses
abbrev pub IsStepTaken : List Clause → ProofStep → List Clause → Type 0
IsStepTaken P (AtClause c) Q = Derives P (step_lines (AtClause c)) Q
IsStepTaken P (UnitClauses units) Q = Derives P (step_lines (UnitClauses units)) Q
IsStepTaken P (DeleteClause c) Q = Derives P (step_lines (DeleteClause c)) Q
IsStepTaken P (DeleteVar v) Q = Q ≡ without v P
IsStepTaken P (FailedAssumptions core) Q = Conflicts P core.now × (Q ≡ P)

-- Line number `number` of the step, counted from 1, is wrong: the lines before it are taken, after which Q is present.
pub record FailsAt (P : List Clause) (lines : List Line) (number : ℕ) (line : Line) (Q : List Clause) : Type 0 where
  pub front : List Line
  pub back : List Line
  pub splits : lines ≡ front ++ line ∷ back
  pub numbered : number ≡ suc (length front)
  pub derives : Derives P front Q
  pub wrong : IsWrong Q line

-- a clause of the step does not follow, or its literals do not conflict
abbrev pub DoesNotFollow : List Clause → ProofStep → ℕ → List Clause → Type 0
DoesNotFollow P (AtClause c) number Q = (d : Clause) × FailsAt P (step_lines (AtClause c)) number (Add d) Q
DoesNotFollow P (UnitClauses units) number Q =
    (d : Clause) × FailsAt P (step_lines (UnitClauses units)) number (Add d) Q
DoesNotFollow P (DeleteClause c) number Q = ⊥
DoesNotFollow P (DeleteVar v) number Q = ⊥
DoesNotFollow P (FailedAssumptions core) number Q = (Conflicts P core.now → ⊥) × (number ≡ 1) × (Q ≡ P)

-- a step is taken, or it is wrong, or the call is refused
abbrev pub IsStep : CheckerState → ProofStep → Result (Unit {0}) CheckerError → CheckerState → Type 0
IsStep old step (Ok u) new = IsStepTaken old.clauses step new.clauses × (old.spent ≡ false) × (new.spent ≡ false)
IsStep old step (Err (CheckFailed number)) new =
    DoesNotFollow old.clauses step number new.clauses × (old.spent ≡ false) × (new.spent ≡ false)
IsStep old step (Err (NoSuchClause number)) new =
    ((d : Clause) × FailsAt old.clauses (step_lines step) number (Delete d) new.clauses)
    × (old.spent ≡ false) × (new.spent ≡ false)
IsStep old step (Err OutOfMemory) new = IsRefusal old OutOfMemory new
IsStep old step (Err Spent) new = IsRefusal old Spent new
IsStep old step (Err error) new = ⊥

-- 2. Proofs.
-- a checker, and the source that it reads
pub record CheckerAtInput : Type 0 where
  pub checker : CheckerState
  pub source : Input

-- both together
abbrev pub at_input : CheckerState → Input → CheckerAtInput
at_input checker source = record { checker = checker; source = source }

-- an error that speaks of the bytes
abbrev pub is_of_bytes : CheckerError → Bool
is_of_bytes (CheckFailed step) = true
is_of_bytes (NoSuchClause step) = true
is_of_bytes (CoreNotAssumed step) = true
is_of_bytes (Parse offset) = true
is_of_bytes error = false

-- a result that does
abbrev pub IsOfBytes : {V : Type 0} → Result V CheckerError → Type 0
IsOfBytes (Ok v) = Unit {0}
IsOfBytes (Err e) = is_of_bytes e ≡ true

-- Where the source had these bytes left, and the result speaks of them, it is right for them.
abbrev pub IsRightFor : {V : Type 0} → CheckerAtInput → Result V CheckerError → (List ℕ → Type 0) → Type 0
IsRightFor old result is_right = (bytes : List ℕ) → old.checker.spent ≡ false → old.source.left ≡ Some bytes →
    IsOfBytes result → is_right bytes

-- What a check of a source returns, where its result is right for some bytes, over what the source gave meanwhile.
pub data ChecksBytes {V : Type 0} (is_right : List ℕ → Type 0) (old : Input) (result : Result V CheckerError)
    (new : Input) : Type 0 where
  -- the source ended, and the result is that of all it gave
  AtEnd : (text : List ℕ) → streams.Reads old text new → HasEnded new → new.faults ≡ old.faults → is_right text →
      ChecksBytes is_right old result new
  -- whatever comes behind what the source gave, this is the result
  InText : (text : List ℕ) → streams.Reads old text new → new.faults ≡ old.faults →
      ((rest : List ℕ) → is_right (text ++ rest)) →
      ChecksBytes is_right old result new
  SourceFailed : (text : List ℕ) → streams.Reads old text new → new.faults ≡ old.faults + 1 → (e : CheckerError) →
      result ≡ Err e → is_io e ≡ true →
      ChecksBytes is_right old result new
  RanOut : (text : List ℕ) → streams.Reads old text new → new.faults ≡ old.faults → result ≡ Err OutOfMemory →
      ChecksBytes is_right old result new

-- what a check of a DRAT proof returns
abbrev pub Checks : ProofFormat → CheckerAtInput → Result CheckVerdict CheckerError → CheckerAtInput → Type 0
Checks format old result new =
    ChecksBytes
    (λ bytes. IsResult format old.checker.clauses bytes result new.checker.clauses) old.source result new.source

-- the cores as lists
abbrev pub core_lists : {A : Type 0} → List (ℕ × Vec ℕ A) → List (ℕ × List Literal)
core_lists cores = map (λ core. (core.0, core.1.items)) cores

-- what a report says, with the list that is assumed where the check stops
abbrev pub reported : {A : Type 0} → List Literal → MarkedReport A → MarkedLog
reported assumed report = record { assumed = assumed; inputs = report.inputs; cores = core_lists report.cores.items }

-- The one right result of a check of a marked proof: its report has the clauses that were given and the cores up to where it stops.
abbrev pub IsMarkedResult : {A : Type 0} → List Clause → List ℕ → Result (MarkedReport A) CheckerError → List Clause →
    Type 0
IsMarkedResult P bytes (Ok report) Q =
    (assumed : List Literal)
    × IsCheckOf (Text true) (state_of P nothing_logged) bytes (Ok report.verdict) (state_of Q (reported assumed report))
IsMarkedResult P bytes (Err e) Q =
    (logged : MarkedLog) × IsCheckOf (Text true) (state_of P nothing_logged) bytes (Err e) (state_of Q logged)

-- what a check of a marked proof returns
abbrev pub ChecksMarked : {A : Type 0} → CheckerAtInput → Result (MarkedReport A) CheckerError → CheckerAtInput → Type 0
ChecksMarked old result new =
    ChecksBytes
    (λ bytes. IsMarkedResult old.checker.clauses bytes result new.checker.clauses) old.source result new.source

-- A report is true: what is called a refutation is one, and no assignment satisfies a core together with the clauses that the checker
-- held and those given before the core.
pub record IsTrueReport {A : Type 0} (P : List Clause) (report : MarkedReport A) : Type 0 where
  pub refutation : report.verdict ≡ Refutation → IsSatisfiable (P ++ report.inputs.clauses) → ⊥
  pub cores :
      (core : ℕ × List Literal) → core ∈ core_lists report.cores.items
      → IsSatisfiableWith (P ++ take core.0 report.inputs.clauses) core.1 → ⊥

-- 3. DIMACS texts.
-- The clauses of a text join the present ones; its fault, if there is one, is returned.
abbrev pub AddsRead : CheckerState → Reading → Result (Unit {0}) CheckerError → CheckerState → Type 0
AddsRead old reading (Ok u) new = (reading.fault ≡ None) × Becomes old (old.clauses ++ reading.clauses) new
AddsRead old reading (Err (Dimacs cause)) new = (reading.fault ≡ Some cause) × (cause.kind ≢ kind.OutOfMemory)
    × Becomes old (old.clauses ++ reading.clauses) new
AddsRead old reading (Err OutOfMemory) new = IsRefusal old OutOfMemory new
AddsRead old reading (Err error) new = ⊥

-- a text is added that a source gives; a spent checker reads nothing
pub data AddsText (old : CheckerAtInput) (result : Result (Unit {0}) CheckerError) (new : CheckerAtInput) : Type 0 where
  Added : (reading : Reading) → GivesReading old.source reading new.source →
      AddsRead old.checker reading result new.checker → AddsText old result new
  -- memory ran out for a clause that was read
  ClauseRanOut : (text : List ℕ) → streams.Reads old.source text new.source → result ≡ Err OutOfMemory →
      IsRefusal old.checker OutOfMemory new.checker →
      AddsText old result new
  Unread : result ≡ Err Spent → IsRefusal old.checker Spent new.checker → new.source ≡ old.source →
      AddsText old result new
