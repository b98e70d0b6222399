-- What the check of a proof in memory against a text in memory returns: a number, and a place.
use Rattle.std.specs.Prelude.{◌≡◌, ℕ, false, List, [], Option, Some, None, IsSome, Result, Ok, Err}
use Rattle.varisat_theory.specs.promises.Literals.{Clause}
use Rattle.varisat_formula.specs.declared.dimacs.error.DimacsError.{DimacsError}
use Rattle.varisat_formula.specs.promises.Dimacs.{dimacs}
use Rattle.varisat_lines.specs.declared.format.ProofFormat.{ProofFormat}
use Rattle.varisat_lines.specs.declared.format.ProofFormat.TheVariants.{Drat, BinaryDrat, Marked}
use Rattle.varisat_proof.specs.declared.checker.error.CheckVerdict.{CheckVerdict}
use Rattle.varisat_proof.specs.declared.checker.error.CheckVerdict.TheVariants.{Refutation, Derivation}
use Rattle.varisat_proof.specs.declared.checker.error.CheckerError.{CheckerError}
use Rattle.varisat_proof.specs.declared.checker.error.CheckerError.TheVariants.{CheckFailed, NoSuchClause, CoreNotAssumed, Parse, Io, OutOfMemory, Dimacs, Spent}
use Rattle.varisat_proof.specs.promises.Calls.{CheckerState}
use Rattle.varisat_proof.specs.promises.DratChecks.{IsDratResult}
use Rattle.varisat_proof.specs.promises.Verified.{AreGiven, IsMarkedCheck}

-- a checker that was given nothing yet
abbrev pub new_checker : CheckerState
new_checker = record { clauses = []; spent = false }

-- 20: the proof refutes; 0: all its lines are right, and refute nothing
abbrev pub verdict_code : CheckVerdict → ℕ
verdict_code Refutation = 20
verdict_code Derivation = 0

-- 16: a line is wrong, or the bytes are no lines; 13: the text has a fault; 3: memory ran out
abbrev pub error_code : CheckerError → ℕ
error_code (CheckFailed step) = 16
error_code (NoSuchClause step) = 16
error_code (CoreNotAssumed step) = 16
error_code (Parse offset) = 16
error_code (Io cause) = 3
error_code OutOfMemory = 3
error_code (Dimacs cause) = 13
error_code Spent = 3

-- the line of the proof, its byte or the line of the text that is wrong
abbrev pub error_place : CheckerError → ℕ
error_place (CheckFailed step) = step
error_place (NoSuchClause step) = step
error_place (CoreNotAssumed step) = step
error_place (Parse offset) = offset
error_place (Io cause) = 0
error_place OutOfMemory = 0
error_place (Dimacs cause) = cause.line
error_place Spent = 0

-- the number and the place speak of the result
abbrev pub ReturnsResult : Result CheckVerdict CheckerError → ℕ → ℕ → Type 0
ReturnsResult (Ok v) number place = (number ≡ verdict_code v) × (place ≡ 0)
ReturnsResult (Err e) number place = (number ≡ error_code e) × (place ≡ error_place e)

-- A check of DRAT lines from the clauses P on has the one right result for all bytes of the proof, or memory ran out.
pub data ReturnsDrat (format : ProofFormat) (P : List Clause) (proof : List ℕ) (number place : ℕ) : Type 0 where
  Checked : (r : Result CheckVerdict CheckerError) (Q : List Clause) → IsDratResult format P proof r Q →
      ReturnsResult r number place → ReturnsDrat format P proof number place
  NoRoom : number ≡ 3 → place ≡ 0 → ReturnsDrat format P proof number place

-- A check of marked lines has the one right result, or it is 17, as the proof was given a clause that is not among P;
-- or memory ran out.
pub data ReturnsMarked (P : List Clause) (proof : List ℕ) (number place : ℕ) : Type 0 where
  Checked : (v : CheckVerdict) (inputs Q : List Clause) → IsMarkedCheck proof (Ok v) inputs Q → AreGiven P inputs →
      ReturnsResult (Ok v) number place → ReturnsMarked P proof number place
  OtherClause : (v : CheckVerdict) (inputs Q : List Clause) → IsMarkedCheck proof (Ok v) inputs Q →
      (AreGiven P inputs → ⊥) → number ≡ 17 → place ≡ 0 → ReturnsMarked P proof number place
  Wrong : (e : CheckerError) (Q : List Clause) → IsMarkedCheck proof (Err e) [] Q → ReturnsResult (Err e) number place →
      ReturnsMarked P proof number place
  NoRoom : number ≡ 3 → place ≡ 0 → ReturnsMarked P proof number place

-- either, by the format
abbrev pub ReturnsProof : ProofFormat → List Clause → List ℕ → ℕ → ℕ → Type 0
ReturnsProof Drat P proof number place = ReturnsDrat Drat P proof number place
ReturnsProof BinaryDrat P proof number place = ReturnsDrat BinaryDrat P proof number place
ReturnsProof Marked P proof number place = ReturnsMarked P proof number place

-- why a text is not taken: it has a fault, or memory ran out
pub data FailsText (text : List ℕ) (e : CheckerError) : Type 0 where
  HasFault : (cause : DimacsError) → (dimacs text).fault ≡ Some cause → e ≡ Dimacs cause → FailsText text e
  RanOut : e ≡ OutOfMemory → FailsText text e

-- What is returned: 14 where there is no such format; or why the text is not taken; or what the proof comes to from its
-- clauses on.
pub data ReturnsCheck (format : Option ProofFormat) (text proof : List ℕ) (number place : ℕ) : Type 0 where
  NoFormat : format ≡ None → number ≡ 14 → place ≡ 0 → ReturnsCheck format text proof number place
  TextFails : (e : CheckerError) → IsSome format → FailsText text e → ReturnsResult (Err e) number place →
      ReturnsCheck format text proof number place
  Checked : (f : ProofFormat) → format ≡ Some f → (dimacs text).fault ≡ None →
      ReturnsProof f (dimacs text).clauses proof number place → ReturnsCheck format text proof number place
