-- What the program's `check` finds out of a text and a proof, what it prints, and with which status it ends then.
use Rattle.std.specs.Prelude.{◌≡◌, ◌⊎◌, ◌+◌, ℕ, List, ◌++◌, take, Bool, true, false, Option, Some, None, Result, Ok, Err, IsTrue, ◌↔◌, [], codes}
use Rattle.varisat_theory.specs.promises.Membership.{◌∈◌, SameSet}
use Rattle.varisat_theory.specs.promises.Literals.{Clause, IsSatisfiable}
use Rattle.varisat_formula.specs.promises.Dimacs.{dimacs}
use Rattle.varisat_formula.specs.promises.Streams as streams
use Rattle.varisat_formula.specs.promises.Streams.{Input, HasEnded, Taken}
use Rattle.varisat_lines.specs.declared.format.ProofFormat.{ProofFormat}
use Rattle.varisat_lines.specs.declared.format.ProofFormat.TheVariants.{Drat, BinaryDrat, Marked}
use Rattle.varisat_lines.specs.declared.format.Encoding.TheVariants.{Text}
use Rattle.varisat_proof.specs.declared.checker.error.CheckVerdict.{CheckVerdict}
use Rattle.varisat_proof.specs.declared.checker.error.CheckVerdict.TheVariants.{Refutation, Derivation}
use Rattle.varisat_proof.specs.declared.checker.error.CheckerError.{CheckerError}
use Rattle.varisat_proof.specs.declared.checker.error.CheckerError.TheVariants.{CheckFailed, NoSuchClause, CoreNotAssumed, Parse, Io, OutOfMemory, Dimacs, Spent}
use Rattle.varisat_proof.specs.promises.Calls.{CheckerState, at_input, AddsText, Checks, ChecksBytes, is_of_bytes, is_io}
use Rattle.varisat_proof.specs.promises.Marked.{MarkedLog, nothing_logged, state_of, IsCheckOf}
use Rattle.varisat_proof.specs.promises.DratChecks.{ChecksDrat}

-- The source gave a whole text without a fault, which has these clauses, and no call of the source failed.
pub record GivesClauses (old : Input) (clauses : List Clause) (new : Input) : Type 0 where
  pub text : List ℕ
  pub reads : streams.Reads old text new
  pub ended : HasEnded new
  pub quiet : new.faults ≡ old.faults
  pub fine : (dimacs text).fault ≡ None
  pub clauses_are : clauses ≡ (dimacs text).clauses

-- whether a proof is verified that a check returned this for
abbrev pub verdict_of : Result CheckVerdict CheckerError → Option Bool
verdict_of (Ok Refutation) = Some true
verdict_of (Ok Derivation) = Some false
verdict_of (Err (CheckFailed step)) = Some false
verdict_of (Err (NoSuchClause step)) = Some false
verdict_of (Err (CoreNotAssumed step)) = Some false
verdict_of (Err (Parse offset)) = Some false
verdict_of (Err (Io cause)) = None
verdict_of (Err OutOfMemory) = None
verdict_of (Err (Dimacs cause)) = None
verdict_of (Err Spent) = None

-- the sources of a text and of a proof
pub record Sources : Type 0 where
  pub cnf : Input
  pub proof : Input

-- both together
abbrev pub sources_of : Input → Input → Sources
sources_of cnf proof = record { cnf = cnf; proof = proof }

-- The text has clauses, and a check of the proof from these on gave the verdict.
pub record Verifies (format : ProofFormat) (old new : Sources) (verified : Bool) : Type 0 where
  pub clauses : List Clause
  pub given : GivesClauses old.cnf clauses new.cnf
  pub left : CheckerState
  pub result_is : Result CheckVerdict CheckerError
  pub checks : Checks format (at_input (record { clauses = clauses; spent = false }) old.proof) result_is
      (at_input left new.proof)
  pub verdict : verdict_of result_is ≡ Some verified

-- each of the clauses is equal as a set to one of P
abbrev pub AreGiven : List Clause → List Clause → Type 0
AreGiven P clauses = (c : Clause) → c ∈ clauses → (d : Clause) × (d ∈ P) × SameSet d c

-- the right result of a check of a marked proof from no clause, with the clauses that it was given up to where it stops
abbrev pub IsMarkedCheck : List ℕ → Result CheckVerdict CheckerError → List Clause → List Clause → Type 0
IsMarkedCheck bytes (Ok v) inputs Q =
    (logged : MarkedLog) × (logged.inputs.clauses ≡ inputs)
    × IsCheckOf (Text true) (state_of [] nothing_logged) bytes (Ok v) (state_of Q logged)
IsMarkedCheck bytes (Err e) inputs Q =
    (logged : MarkedLog) × IsCheckOf (Text true) (state_of [] nothing_logged) bytes (Err e) (state_of Q logged)

-- A marked proof is verified where it refutes and was given only clauses of the text; its wrong lines and bytes are none.
abbrev pub IsMarkedVerdict : List Clause → Result CheckVerdict CheckerError → List Clause → Bool → Type 0
IsMarkedVerdict clauses (Ok v) inputs verified = IsTrue verified ↔ ((v ≡ Refutation) × AreGiven clauses inputs)
IsMarkedVerdict clauses (Err e) inputs verified = (is_of_bytes e ≡ true) × (verified ≡ false)

-- The text has clauses, and a check of the marked proof from none gave the verdict.
pub record VerifiesMarked (old new : Sources) (verified : Bool) : Type 0 where
  pub clauses : List Clause
  pub given : GivesClauses old.cnf clauses new.cnf
  pub result_is : Result CheckVerdict CheckerError
  pub inputs : List Clause
  pub left : List Clause
  pub checks : ChecksBytes {V = CheckVerdict}
      (λ bytes. IsMarkedCheck bytes result_is inputs left) old.proof result_is new.proof
  pub verdict : IsMarkedVerdict clauses result_is inputs verified

-- the verdict of either
abbrev pub VerifiesBy : ProofFormat → Sources → Sources → Bool → Type 0
VerifiesBy Drat old new verified = Verifies Drat old new verified
VerifiesBy BinaryDrat old new verified = Verifies BinaryDrat old new verified
VerifiesBy Marked old new verified = VerifiesMarked old new verified

-- reading a proof fails: its source does, or memory runs out
abbrev pub FailsToRead : Input → CheckerError → Input → Type 0
FailsToRead old e new =
    (text : List ℕ) × streams.Reads old text new
    × (((is_io e ≡ true) × (new.faults ≡ old.faults + 1)) ⊎ ((e ≡ OutOfMemory) × (new.faults ≡ old.faults)))

-- When a check comes to no verdict, but to the error: a new checker does not take the text; or it does, and reading the proof fails.
pub data FailsCheck (old new : Sources) (e : CheckerError) : Type 0 where
  AsRead : (left : CheckerState) →
      AddsText (at_input (record { clauses = []; spent = false }) old.cnf) (Err e) (at_input left new.cnf) →
      new.proof ≡ old.proof → FailsCheck old new e
  AsChecked : (clauses : List Clause) → GivesClauses old.cnf clauses new.cnf → FailsToRead old.proof e new.proof →
      FailsCheck old new e

-- the source gave a whole text without a fault, whose clauses no assignment satisfies
abbrev pub GivesUnsatisfiable : Input → Input → Type 0
GivesUnsatisfiable old new = (clauses : List Clause) × GivesClauses old clauses new × (IsSatisfiable clauses → ⊥)

-- what is printed, and the status
abbrev pub verdict_text : Bool → List ℕ
verdict_text true = codes "s VERIFIED\n"
verdict_text false = codes "s NOT VERIFIED\n"

-- the status of the program for a verdict: 0 where the proof refutes
abbrev pub verdict_status : Bool → ℕ
verdict_status true = 0
verdict_status false = 1

-- the status where there was a fault
abbrev pub fault_status : ℕ
fault_status = 2

-- A target took the text, no call of it failed, and the status is `done`; or a call failed, the target took a beginning of the text,
-- and the status is that of a fault.
abbrev pub EndsPrinting : ℕ → List ℕ → ℕ → Taken → Taken → Type 0
EndsPrinting done text status before after =
    ((status ≡ done) × (after.bytes ≡ before.bytes ++ text) × (after.faults ≡ before.faults))
    ⊎ ((status ≡ fault_status) × ((n : ℕ) × (after.bytes ≡ before.bytes ++ take n text))
    × (after.faults ≡ before.faults + 1))

-- the verdict is printed with its status, or a beginning of its text where a call of the target fails
abbrev pub PrintsVerdict : Bool → ℕ → Taken → Taken → Type 0
PrintsVerdict verified status before after =
    EndsPrinting (verdict_status verified) (verdict_text verified) status before after

-- How the command ends, of which `before` and `after` are what its target took: the check fails, nothing is printed, and the status
-- is that of a fault; or it comes to a verdict, which is printed.
abbrev pub EndsCheck : ProofFormat → Sources → Sources → ℕ → Taken → Taken → Type 0
EndsCheck format old new status before after =
    ((error : CheckerError) × FailsCheck old new error × (status ≡ fault_status) × (after ≡ before))
    ⊎ ((verified : Bool) × VerifiesBy format old new verified × PrintsVerdict verified status before after)

-- the same, by the sources
abbrev pub EndsBy : ProofFormat → Input → Input → Input → Input → ℕ → Taken → Taken → Type 0
EndsBy format cnf proof cnf' proof' status before after =
    EndsCheck format (sources_of cnf proof) (sources_of cnf' proof') status before after

-- The text has clauses, and a check of the proof's DRAT lines from these on gave the verdict.
pub record VerifiesDrat (format : ProofFormat) (old new : Sources) (verified : Bool) : Type 0 where
  pub clauses : List Clause
  pub given : GivesClauses old.cnf clauses new.cnf
  pub left : CheckerState
  pub result_is : Result CheckVerdict CheckerError
  pub checks : ChecksDrat format (at_input (record { clauses = clauses; spent = false }) old.proof) result_is
      (at_input left new.proof)
  pub verdict : verdict_of result_is ≡ Some verified

-- how such a check ends
abbrev pub EndsDrat : ProofFormat → Sources → Sources → ℕ → Taken → Taken → Type 0
EndsDrat format old new status before after =
    ((error : CheckerError) × FailsCheck old new error × (status ≡ fault_status) × (after ≡ before))
    ⊎ ((verified : Bool) × VerifiesDrat format old new verified × PrintsVerdict verified status before after)

-- the same, by the sources
abbrev pub EndsByDrat : ProofFormat → Input → Input → Input → Input → ℕ → Taken → Taken → Type 0
EndsByDrat format cnf proof cnf' proof' status before after =
    EndsDrat format (sources_of cnf proof) (sources_of cnf' proof') status before after
