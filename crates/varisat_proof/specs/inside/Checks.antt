-- How a checker stands behind lines of a proof, and behind its bytes.
use Rattle.std.specs.Prelude.{◌≡◌, ◌≢◌, ℕ, suc, List, [], ◌∷◌, ◌++◌, length, Bool, true, false, IsTrue, ◌↔◌, if◌then◌else◌, Result, Ok, Err}
use Rattle.varisat_theory.specs.promises.Literals.{Literal, Clause}
use Rattle.varisat_theory.specs.promises.Derivations.{Line, Add, Delete, Derives}
use Rattle.varisat_plain.specs.promises.Checking.{IsWrong}
use Rattle.varisat_theory.specs.promises.Propagation.{Conflicts}
use Rattle.varisat_formula.specs.declared.dimacs.error.DimacsError.{DimacsError}
use Rattle.varisat_formula.specs.declared.dimacs.error.DimacsErrorKind.TheVariants as kind
use Rattle.varisat_lines.specs.declared.format.Encoding.{Encoding}
use Rattle.varisat_lines.specs.declared.format.LineKind.{LineKind}
use Rattle.varisat_lines.specs.declared.format.LineKind.TheVariants.{Deletes}
use Rattle.varisat_proof.specs.declared.checker.line.LineStatus.{LineStatus}
use Rattle.varisat_proof.specs.declared.checker.line.LineStatus.TheVariants.{Taken, Unproved, Absent, Unassumed}
use Rattle.varisat_proof.specs.declared.checker.error.CheckVerdict.{CheckVerdict}
use Rattle.varisat_proof.specs.declared.checker.error.CheckVerdict.TheVariants.{Refutation, Derivation}
use Rattle.varisat_proof.specs.declared.checker.error.CheckerError.{CheckerError}
use Rattle.varisat_proof.specs.declared.checker.error.CheckerError.TheVariants.{CheckFailed, NoSuchClause, CoreNotAssumed, Parse, OutOfMemory, Dimacs}
use Rattle.varisat_proof.specs.declared.checker.check.Count.{Count}
use Rattle.varisat_lines.specs.promises.Lines.{ProofLine, line_of_kind, step_number}
use Rattle.varisat_lines.specs.inside.Machine.{Parsed, ReaderState, parsed, parsed_from}
use Rattle.varisat_proof.specs.promises.Marked.{ProofState, MarkedLog, Rules, state_of, GoesBy, IsCheckBy}
use Rattle.varisat_theory.specs.inside.StepLaws.{unit_lines}
use Rattle.varisat_proof.specs.promises.Calls.{CheckerState, CheckerAtInput, ChecksBytes, FailsAt}

-- 1. Lines, by some rules.
-- what becomes of a line: it is taken, or it is wrong and nothing changes
abbrev pub IsLineStatus : Rules → ProofState → ProofLine → LineStatus → ProofState → Type 0
IsLineStatus R s line Taken t = R.takes s line t
IsLineStatus R s line status t = R.wrong s line status × (t ≡ s)

-- the status says it, unless memory ran out
abbrev pub ReturnsStatus : {E : Type 0} → Rules → ProofState → ProofLine → Result LineStatus E → ProofState → Type 0
ReturnsStatus R s line (Ok status) t = IsLineStatus R s line status t
ReturnsStatus R s line (Err e) t = Unit {0}

-- t is there behind a beginning of the lines, where propagation conflicts
pub record HasRefuted (R : Rules) (s : ProofState) (lines : List ProofLine) (t : ProofState) : Type 0 where
  pub front : List ProofLine
  pub back : List ProofLine
  pub splits : lines ≡ front ++ back
  pub goes : GoesBy R s front t
  pub conflict : Conflicts t.present []

-- What is said of whether propagation over P conflicts behind a line of this kind, before which it did not.
abbrev pub IsRefutedBehind : LineKind → List Clause → Bool → Type 0
IsRefutedBehind Deletes P found = found ≡ false
IsRefutedBehind kind P found = IsTrue found ↔ Conflicts P []

-- t is there behind lines that have refuted, or behind all of them, which have not
abbrev pub StopsBehind : Rules → Bool → ProofState → List ProofLine → ProofState → ℕ → Type 0
StopsBehind R true s lines t steps = HasRefuted R s lines t
StopsBehind R false s lines t steps =
    GoesBy R s lines t × (Conflicts t.present [] → ⊥) × (steps ≡ step_number (length lines))

-- The lines were taken, or, once propagation conflicted, only read; and they were counted.
abbrev pub IsAfterLines : Rules → ProofState → List ProofLine → ProofState → Count → Type 0
IsAfterLines R s lines t count = StopsBehind R count.refuted s lines t count.steps

-- the last line is the first wrong one, and t is there before it
pub record LastIsWrong (R : Rules) (s : ProofState) (lines : List ProofLine) (status : LineStatus) (step : ℕ)
    (t : ProofState) : Type 0 where
  pub front : List ProofLine
  pub line : ProofLine
  pub splits : lines ≡ front ++ line ∷ []
  pub goes : GoesBy R s front t
  pub no_conflict : Conflicts t.present [] → ⊥
  pub wrong : R.wrong t line status
  pub numbered : step ≡ step_number (suc (length front))

-- The error says what is wrong with the last line; where memory ran out nothing is known of it.
abbrev pub IsWrongLast : Rules → ProofState → List ProofLine → CheckerError → ProofState → Type 0
IsWrongLast R s lines (CheckFailed step) t = LastIsWrong R s lines Unproved step t
IsWrongLast R s lines (NoSuchClause step) t = LastIsWrong R s lines Absent step t
IsWrongLast R s lines (CoreNotAssumed step) t = LastIsWrong R s lines Unassumed step t
IsWrongLast R s lines OutOfMemory t = Unit {0}
IsWrongLast R s lines error t = ⊥

-- a line more
abbrev pub TakesLine : Rules → ProofState → List ProofLine → Result (Unit {0}) CheckerError → ProofState → Count →
    Type 0
TakesLine R s lines (Ok u) t count = IsAfterLines R s lines t count
TakesLine R s lines (Err e) t count = IsWrongLast R s lines e t

-- whichever lines were looked at before
abbrev pub TakesNext : Rules → ProofState → Count → LineKind → Clause → Result (Unit {0}) CheckerError → ProofState →
    Count → Type 0
TakesNext R old before kind clause result new after =
    (s : ProofState) (lines : List ProofLine)
    → IsAfterLines R s lines old before → TakesLine R s (lines ++ line_of_kind kind clause ∷ []) result new after

-- 2. Bytes.
abbrev pub with_lines : List ProofLine → Parsed → Parsed
with_lines ls t = record { lines = ls ++ t.lines; fault = t.fault }

-- a reader has come past the text, and these lines ended in it
pub record HasRead (encoding : Encoding) (text : List ℕ) (lines : List ProofLine) (p : ReaderState) : Type 0 where
  pub rest_is : (rest : List ℕ) → parsed encoding (text ++ rest) ≡ with_lines lines (parsed_from p rest)

-- the present clauses and what was logged, how many lines were looked at, and how far the reader has come
pub record Position : Type 0 where
  pub state : ProofState
  pub count : Count
  pub progress : ReaderState

-- all of these
abbrev pub position_of : CheckerState → MarkedLog → Count → ReaderState → Position
position_of checker logged count progress =
    record { state = state_of checker.clauses logged; count = count; progress = progress }

-- a check breaks off in the text, whatever comes behind it
abbrev pub CheckBreaksOff : Rules → Encoding → ProofState → List ℕ → CheckerError → ProofState → Type 0
CheckBreaksOff R encoding s text OutOfMemory t = Unit {0}
CheckBreaksOff R encoding s text e t = (rest : List ℕ) → IsCheckBy R encoding s (text ++ rest) (Err e) t

-- a piece more of the text was read
abbrev pub ReadsPiece : Rules → Encoding → ProofState → List ℕ → Result (Unit {0}) CheckerError → Position → Type 0
ReadsPiece R encoding s text (Ok u) at =
    (lines : List ProofLine) × HasRead encoding text lines at.progress × IsAfterLines R s lines at.state at.count
ReadsPiece R encoding s text (Err e) at = CheckBreaksOff R encoding s text e at.state

-- whatever was read before
abbrev pub ReadsNext : Rules → List ℕ → Position → Result (Unit {0}) CheckerError → Position → Type 0
ReadsNext R piece old result new =
    (e : Encoding) (s : ProofState) (text : List ℕ) (lines : List ProofLine)
    → HasRead e text lines old.progress → IsAfterLines R s lines old.state old.count →
    ReadsPiece R e s (text ++ piece) result new

-- what a check returns where the bytes end, of which all lines were checked
abbrev pub result_at_end : ReaderState → Count → Result CheckVerdict CheckerError
result_at_end p count =
    if p.place.inside then Err (Parse p.at) else Ok (if count.refuted then Refutation else Derivation)

-- the text is the whole proof
abbrev pub EndsWith : Rules → Encoding → ProofState → List ℕ → Result CheckVerdict CheckerError → ProofState → Type 0
EndsWith R encoding s text (Err OutOfMemory) t = Unit {0}
EndsWith R encoding s text result t = IsCheckBy R encoding s text result t

-- whatever was read before
abbrev pub EndsBehind : Rules → Position → Result CheckVerdict CheckerError → ProofState → Type 0
EndsBehind R old result t =
    (e : Encoding) (s : ProofState) (text : List ℕ) (lines : List ProofLine)
    → HasRead e text lines old.progress → IsAfterLines R s lines old.state old.count → EndsWith R e s text result t

-- a source is read as one proof
abbrev pub ChecksFrom : Rules → Encoding → CheckerAtInput → MarkedLog → Result CheckVerdict CheckerError →
    CheckerAtInput → MarkedLog → Type 0
ChecksFrom R encoding old before result new after =
    ChecksBytes
    (λ bytes.
    IsCheckBy R encoding (state_of old.checker.clauses before) bytes result (state_of new.checker.clauses after))
    old.source result new.source

-- 3. Steps.
-- a line is taken, or it is wrong and nothing changes, or memory runs out
abbrev pub ChecksLine : CheckerState → Line → ℕ → Result (Unit {0}) CheckerError → CheckerState → Type 0
ChecksLine old line number (Ok u) new = Derives old.clauses (line ∷ []) new.clauses × (new.spent ≡ old.spent)
ChecksLine old line number (Err (CheckFailed step)) new =
    ((c : Clause) × (line ≡ Add c) × IsWrong old.clauses (Add c)) × (step ≡ number) × (new ≡ old)
ChecksLine old line number (Err (NoSuchClause step)) new =
    ((c : Clause) × (line ≡ Delete c) × IsWrong old.clauses (Delete c)) × (step ≡ number) × (new ≡ old)
ChecksLine old line number (Err OutOfMemory) new = new.spent ≡ true
ChecksLine old line number (Err error) new = ⊥

-- What checking unit clauses one after another returns: they follow, or the first that does not is returned.
abbrev pub ChecksUnits : CheckerState → List Literal → Result (Unit {0}) CheckerError → CheckerState → Type 0
ChecksUnits old units (Ok u) new = Derives old.clauses (unit_lines units) new.clauses × (new.spent ≡ false)
ChecksUnits old units (Err (CheckFailed step)) new =
    ((c : Clause) × FailsAt old.clauses (unit_lines units) step (Add c) new.clauses) × (new.spent ≡ false)
ChecksUnits old units (Err OutOfMemory) new = new.spent ≡ true
ChecksUnits old units (Err error) new = ⊥

-- What checking a core returns: whether propagation from it conflicts. It is not kept.
abbrev pub ChecksCore : CheckerState → List Literal → Result (Unit {0}) CheckerError → CheckerState → Type 0
ChecksCore old core (Ok u) new = Conflicts old.clauses core × (new ≡ old)
ChecksCore old core (Err (CheckFailed step)) new = (Conflicts old.clauses core → ⊥) × (step ≡ 1) × (new ≡ old)
ChecksCore old core (Err OutOfMemory) new = new.spent ≡ true
ChecksCore old core (Err error) new = ⊥

-- 4. Texts.
-- how the fault of a text is returned: memory that ran out in the reader spends the checker
abbrev pub RefusesText : CheckerState → DimacsError → CheckerError → CheckerState → Type 0
RefusesText old fault (Dimacs cause) new = (cause ≡ fault) × (fault.kind ≢ kind.OutOfMemory) × (new ≡ old)
RefusesText old fault OutOfMemory new = (fault.kind ≡ kind.OutOfMemory) × (new.spent ≡ true)
RefusesText old fault error new = ⊥
