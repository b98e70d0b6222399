-- The one right result of a check, over all bytes of a proof.
use Rattle.std.specs.Prelude.{◌≡◌, ℕ, suc, ◌⊎◌, List, [], ◌++◌, length, Option, Some, None, Result, Ok, Err}
use Rattle.varisat_theory.specs.promises.Literals.{Clause}
use Rattle.varisat_theory.specs.promises.Derivations.{Line, Derives, IsDerivation, Refutes}
use Rattle.varisat_theory.specs.promises.Propagation.{Conflicts}
use Rattle.varisat_plain.specs.promises.Checking.{IsVerdict}
use Rattle.varisat_plain.specs.declared.checker.PlainVerdict.{PlainVerdict}
use Rattle.varisat_plain.specs.declared.checker.PlainVerdict.TheVariants as plain
use Rattle.varisat_lines.specs.declared.format.ProofFormat.{ProofFormat}
use Rattle.varisat_proof.specs.declared.checker.error.CheckVerdict.{CheckVerdict}
use Rattle.varisat_proof.specs.declared.checker.error.CheckVerdict.TheVariants.{Refutation, Derivation}
use Rattle.varisat_proof.specs.declared.checker.error.CheckerError.{CheckerError}
use Rattle.varisat_proof.specs.declared.checker.error.CheckerError.TheVariants.{CheckFailed, NoSuchClause, Parse}
use Rattle.varisat_lines.specs.promises.Lines.{plain_lines, plain_encoding, step_number}
use Rattle.varisat_lines.specs.promises.Means.{BytesMean}
use Rattle.varisat_lines.specs.promises.Written.{Written, AreInRange}

-- A wrong line is returned first, and then a fault of the bytes.
abbrev pub result_of : Option ℕ → PlainVerdict → Result CheckVerdict CheckerError
result_of None plain.Refutation = Ok Refutation
result_of None plain.Derivation = Ok Derivation
result_of (Some offset) plain.Refutation = Err (Parse offset)
result_of (Some offset) plain.Derivation = Err (Parse offset)
result_of fault (plain.DoesNotFollow number) = Err (CheckFailed (step_number number))
result_of fault (plain.DeletesNothing number) = Err (NoSuchClause (step_number number))

-- where a checker stops that comes to the verdict: behind lines that refute, behind all of them, or before a wrong one
abbrev pub StopsAt : PlainVerdict → List Line → List Line → List Clause → Type 0
StopsAt plain.Refutation front back Q = Conflicts Q []
StopsAt plain.Derivation front back Q = back ≡ []
StopsAt (plain.DoesNotFollow number) front back Q = number ≡ suc (length front)
StopsAt (plain.DeletesNothing number) front back Q = number ≡ suc (length front)

-- Q is present where a checker stops
pub record LeavesPresent (P : List Clause) (lines : List Line) (verdict : PlainVerdict) (Q : List Clause) : Type 0 where
  pub front : List Line
  pub back : List Line
  pub splits : lines ≡ front ++ back
  pub derives : Derives P front Q
  pub stops : StopsAt verdict front back Q

-- The lines in front of the bytes' first fault, that fault, and what the lines are from P on; and what the check returns and leaves present.
pub record IsResult (format : ProofFormat) (P : List Clause) (bytes : List ℕ)
    (result : Result CheckVerdict CheckerError) (Q : List Clause) : Type 0 where
  pub lines : List Line
  pub fault : Option ℕ
  pub verdict : PlainVerdict
  pub means : BytesMean (plain_encoding format) bytes (plain_lines lines) fault
  pub is_verdict : IsVerdict P lines verdict
  pub leaves : LeavesPresent P lines verdict Q
  pub result_is : result ≡ result_of fault verdict

-- The result is Refutation where the lines refute, and Derivation else.
abbrev pub IsAccepted : List Clause → List Line → Result CheckVerdict CheckerError → Type 0
IsAccepted P lines result =
    (Refutes P lines × (result ≡ Ok Refutation)) ⊎ ((Refutes P lines → ⊥) × (result ≡ Ok Derivation))

-- so it is of what is written for a derivation with variables up to 2^28
abbrev pub DerivationIsAccepted : ProofFormat → Type 0
DerivationIsAccepted format =
    (P : List Clause) (lines : List Line) (bytes : List ℕ) (result : Result CheckVerdict CheckerError)
    (Q : List Clause) → IsDerivation P lines →
    AreInRange (plain_lines lines) → Written (plain_encoding format) (plain_lines lines) bytes →
    IsResult format P bytes result Q →
    IsAccepted P lines result

-- all bytes have one result
abbrev pub ResultOnce : ProofFormat → Type 0
ResultOnce format = (P : List Clause) (bytes : List ℕ) (r q : Result CheckVerdict CheckerError) (Q R : List Clause) →
    IsResult format P bytes r Q →
    IsResult format P bytes q R → r ≡ q
