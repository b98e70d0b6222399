-- What logging entries makes of an open proof, of which only the bytes and the count of faults change, and of the checker in a solver.
use Rattle.std.specs.Prelude.{◌≡◌, ◌⊎◌, ℕ, ◌+◌, ◌-◌, ◌<◌, ◌^◌, Bool, true, false, not, ◌&&◌, ◌||◌, List, ◌++◌, take, Option, Some, None, Result, Ok, Err}
use Rattle.varisat_theory.specs.promises.Literals.{Clause}
use Rattle.varisat_theory.specs.promises.Held.{SameClauses}
use Rattle.varisat_formula.specs.promises.Streams.{Taken}
use Rattle.varisat_theory.specs.promises.Journals.{Entry}
use Rattle.varisat_steps.specs.declared.tracer.TraceError.{TraceError}
use Rattle.varisat_steps.specs.declared.tracer.TraceError.TheVariants.{Memory, Target}
use Rattle.varisat_lines.specs.declared.format.ProofFormat.{ProofFormat}
use Rattle.varisat_proof.specs.promises.Calls.{CheckerState}
use Rattle.varisat_proof.specs.inside.Present.{IsLeftAfter}
use Rattle.varisat_lines.specs.declared.format.Encoding.{Encoding}
use Rattle.varisat_lines.specs.promises.Lines.{ProofLine, encoding_of, has_marks}
use Rattle.varisat_lines.specs.declared.writer.WriteError.{WriteError}
use Rattle.varisat_lines.specs.promises.Steps.{lines_written, PutsLines}
use Rattle.varisat_lines.specs.promises.Logging.{logged_lines}

-- an open proof: its format, what its target took, and whether a search ran under it
pub record OpenState : Type 0 where
  pub format : ProofFormat
  pub taken : Taken
  pub searched : Bool

-- the proof that is open and the checker that runs
pub record ProofParts : Type 0 where
  pub opened : Option OpenState
  pub checker : Option CheckerState

-- whether there is one
abbrev pub is_there : {X : Type 0} → Option X → Bool
is_there None = false
is_there (Some x) = true

-- whether a proof is open or a checker runs
abbrev pub is_logging : ProofParts → Bool
is_logging p = is_there p.opened || is_there p.checker

-- 1. A target.
-- The target took these lines.
pub record IsWritten (old : OpenState) (lines : List ProofLine) (new : OpenState) : Type 0 where
  pub rest : new ≡ record old { taken = new.taken }
  pub bytes : new.taken.bytes ≡ old.taken.bytes ++ lines_written (encoding_of old.format) lines
  pub faults : new.taken.faults ≡ old.taken.faults

-- what putting the lines of its encoding into it returns, and what the target took then
abbrev pub PutsInto : OpenState → (Encoding → List ProofLine) → Result (Unit {0}) WriteError → Taken → Type 0
PutsInto old lines result taken =
    PutsLines (encoding_of old.format) old.taken result (lines (encoding_of old.format)) taken

-- It took a beginning of them, and this many faults came.
pub record IsBegun (old : OpenState) (lines : List ProofLine) (more : ℕ) (new : OpenState) : Type 0 where
  pub rest : new ≡ record old { taken = new.taken }
  pub bytes : (n : ℕ) × (new.taken.bytes ≡ old.taken.bytes ++ take n (lines_written (encoding_of old.format) lines))
  pub faults : new.taken.faults ≡ old.taken.faults + more

-- 2. An open proof and a checker, if there are such.
-- the lines of its encoding were written
abbrev pub IsWrittenIf : Option OpenState → (Encoding → List ProofLine) → Option OpenState → Type 0
IsWrittenIf None lines new = new ≡ None
IsWrittenIf (Some old) lines None = ⊥
IsWrittenIf (Some old) lines (Some new) = IsWritten old (lines (encoding_of old.format)) new

-- so it is where a proof is open; else nothing is written
abbrev pub IsBegunIf : Option OpenState → (Encoding → List ProofLine) → ℕ → Option OpenState → Type 0
IsBegunIf None lines more new = (new ≡ None) × (more ≡ 0)
IsBegunIf (Some old) lines more None = ⊥
IsBegunIf (Some old) lines more (Some new) = IsBegun old (lines (encoding_of old.format)) more new

-- What writing returns and leaves: after an error a beginning of the lines stands in the target, and a fault comes only from there.
abbrev pub WritesLines : Option OpenState → (Encoding → List ProofLine) → Result (Unit {0}) TraceError →
    Option OpenState → Type 0
WritesLines old lines (Ok u) new = IsWrittenIf old lines new
WritesLines old lines (Err Memory) new = IsBegunIf old lines 0 new
WritesLines old lines (Err (Target cause)) new = IsBegunIf old lines 1 new

-- the lines of the entries, by encoding
abbrev pub logged : List Entry → Encoding → List ProofLine
logged entries e = logged_lines e entries

-- the checker took the entries
abbrev pub IsCheckedIf : Option CheckerState → List Entry → Option CheckerState → Type 0
IsCheckedIf None entries new = new ≡ None
IsCheckedIf (Some old) entries None = ⊥
IsCheckedIf (Some old) entries (Some new) = IsLeftAfter old.clauses entries new.clauses × (new.spent ≡ old.spent)

-- Both logged the entries.
pub record IsLogged (old : ProofParts) (entries : List Entry) (new : ProofParts) : Type 0 where
  pub written : IsWrittenIf old.opened (logged entries) new.opened
  pub checked : IsCheckedIf old.checker entries new.checker

-- a checker that ran and runs ran out of memory
abbrev pub IsSpent : Option CheckerState → Option CheckerState → Type 0
IsSpent (Some old) (Some new) = new.spent ≡ true
IsSpent _ _ = ⊥

-- Memory ran out: for a line, so that a beginning of the lines was written and the checker got nothing; or in the checker, behind all
-- the lines.
abbrev pub RunsOutLogging : ProofParts → List Entry → ProofParts → Type 0
RunsOutLogging old entries new =
    (IsBegunIf old.opened (logged entries) 0 new.opened × (new.checker ≡ old.checker))
    ⊎ (IsWrittenIf old.opened (logged entries) new.opened × IsSpent old.checker new.checker)

-- What logging entries returns and leaves. Where the target failed, a beginning of the lines was written and the checker got nothing.
abbrev pub Logs : ProofParts → List Entry → Result (Unit {0}) TraceError → ProofParts → Type 0
Logs old entries (Ok u) new = IsLogged old entries new
Logs old entries (Err Memory) new = RunsOutLogging old entries new
Logs old entries (Err (Target cause)) new =
    IsBegunIf old.opened (logged entries) 1 new.opened × (new.checker ≡ old.checker)

-- 3. What can be logged.
-- a target can be used that may still count a fault
abbrev pub CanCountTargetFault : Option OpenState → Type 0
CanCountTargetFault None = Unit {0}
CanCountTargetFault (Some p) = p.taken.faults < 2 ^ 64 - 1

-- The clauses that a checker may hold: the same as sets that it has, each as often, in whatever order. Where none runs it may be any.
abbrev pub MayBePresent : Option CheckerState → List Clause → Type 0
MayBePresent None held = Unit {0}
MayBePresent (Some c) held = SameClauses held c.clauses × (c.spent ≡ false)

-- a checker that runs is not spent
abbrev pub IsUsable : Option CheckerState → Type 0
IsUsable None = Unit {0}
IsUsable (Some c) = c.spent ≡ false

-- 4. How a search ends under a proof, and how that closes.
-- whether an open proof bars further clauses: a search ran under it, and its format has no lines for them
abbrev pub bars_clauses : Option OpenState → Bool
bars_clauses None = false
bars_clauses (Some p) = p.searched && not (has_marks p.format)

-- whether it bars assumptions: its format has no lines for them
abbrev pub bars_assumptions : Option OpenState → Bool
bars_assumptions None = false
bars_assumptions (Some p) = not (has_marks p.format)

-- the open proof, if any, as one under which a search ran
abbrev pub marked_searched : Option OpenState → Option OpenState
marked_searched None = None
marked_searched (Some p) = Some (record p { searched = true })

-- the target took the same, and failed once more
abbrev pub with_fault : Taken → Taken
with_fault taken = record taken { faults = taken.faults + 1 }

-- What a flush returns and leaves: an error is a fault of the target, and comes only where a proof is open.
abbrev pub Flushes : {E : Type 0} → Option OpenState → Result (Unit {0}) E → Option OpenState → Type 0
Flushes old (Ok u) new = new ≡ old
Flushes None (Err e) new = ⊥
Flushes (Some p) (Err e) new = new ≡ Some (record p { taken = with_fault p.taken })

-- What closing returns: the target, or its fault with it, and nothing where no proof is open.
abbrev pub IsClosed : {W E : Type 0} → (W → Taken) → Option OpenState → Result (Option W) (E × W) → Type 0
IsClosed taken None (Ok None) = Unit {0}
IsClosed taken None result = ⊥
IsClosed taken (Some p) (Ok None) = ⊥
IsClosed taken (Some p) (Ok (Some w)) = taken w ≡ p.taken
IsClosed taken (Some p) (Err e) = taken e.1 ≡ with_fault p.taken
