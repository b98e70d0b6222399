-- What a checker that runs inside a solver makes of a step that is right, and how the written lines and the checker go together.
use Rattle.std.proofs.Common.{◌≡◌, ℕ, Bool, false, List, [], ◌∷◌, ◌++◌, refl, sym, ap, ◌∙◌, subst, Option, None, Some, Result, Ok, Err, OnOk, IfErr, inr}
use Rattle.varisat_theory.specs.promises.Literals.{Literal, Clause}
use Rattle.varisat_theory.specs.promises.Propagation.{Conflicts}
use Rattle.varisat_theory.specs.promises.Derivations.{Line, Add, Delete, Derives, IsPresentAfter}
use Rattle.varisat_theory.specs.promises.Held.{SameClauses}
use Rattle.varisat_plain.specs.promises.Checking.{IsWrong}
use Rattle.varisat_plain.proofs.Checking.{wrong_line}
use Rattle.varisat_theory.specs.inside.StepLaws.{unit_lines}
use Rattle.varisat_theory.proofs.clauses.Held.{same_set-self, same_set-through, same_clauses-self, same_clauses_find, takes_from, follows_same, conflicts_same}
use Rattle.varisat_theory.proofs.clauses.Lines.{derives_cut, derives_present, derives_same, same_lines-self, present_unique}
use Rattle.varisat_theory.specs.promises.Journals.{Entry, written}
use Rattle.varisat_steps.specs.Traces.{CanTake, CanFail, CanTakeStep, entries_of}
use Rattle.varisat_steps.specs.declared.step.ProofStep.{ProofStep}
use Rattle.varisat_steps.specs.declared.step.ProofStep.TheVariants.{AtClause, UnitClauses, DeleteClause, DeleteVar, FailedAssumptions}
use Rattle.varisat_steps.specs.declared.tracer.TraceError.{TraceError}
use Rattle.varisat_steps.specs.declared.tracer.TraceError.TheVariants.{Memory}
use Rattle.varisat_lines.specs.declared.format.Encoding.{Encoding}
use Rattle.varisat_proof.specs.declared.checker.error.CheckerError.{CheckerError}
use Rattle.varisat_proof.specs.declared.checker.error.CheckerError.TheVariants.{CheckFailed, NoSuchClause, CoreNotAssumed, Parse, Io, OutOfMemory, Dimacs, Spent}
use Rattle.varisat_lines.specs.promises.Lines.{ProofLine, encoding_of}
use Rattle.varisat_lines.specs.promises.Steps.{step_lines}
use Rattle.varisat_proof.specs.promises.Calls.{CheckerState, IsStepTaken, FailsAt, DoesNotFollow, IsStep}
use Rattle.varisat_proof.specs.inside.Present.{IsLeftAfter}
use Rattle.varisat_proof.specs.promises.Proving.{OpenState, ProofParts, IsWritten, IsWrittenIf, IsCheckedIf, IsLogged, Logs, logged, MayBePresent, IsUsable, IsSpent, RunsOutLogging}

-- 1. A step that is taken.
lines_left : (P : List Clause) (lines : List Line) (Q : List Clause) → IsPresentAfter P lines Q → IsLeftAfter P (written lines) Q
lines_left P [] Q e = e
lines_left P (Add c ∷ lines) Q h = lines_left (P ++ c ∷ []) lines Q h
lines_left P (Delete c ∷ lines) Q (R, t, h) = (R, t, lines_left R lines Q h)

derived_left : (P : List Clause) (lines : List Line) (Q : List Clause) → Derives P lines Q → IsLeftAfter P (written lines) Q
derived_left P lines Q d = lines_left P lines Q (derives_present P lines Q d)

taken_left : (P : List Clause) (step : ProofStep) (Q : List Clause) → IsStepTaken P step Q → IsLeftAfter P (entries_of step) Q
taken_left P (AtClause c) Q d = derived_left P (Add c.now ∷ []) Q d
taken_left P (UnitClauses units) Q d = derived_left P (unit_lines units.now) Q d
taken_left P (DeleteClause c) Q d = derived_left P (Delete c.now ∷ []) Q d
taken_left P (DeleteVar v) Q e = sym e
taken_left P (FailedAssumptions core) Q (k, e) = sym e

pub taken-step : (checker : Option CheckerState) (old new : CheckerState) (step : ProofStep) (r : Result (Unit {0}) CheckerError) → checker ≡ Some old →
    IsStep old step r new → OnOk r (IsCheckedIf checker (entries_of step) (Some new))
taken-step checker old new step (Err e) is h = tt
taken-step checker old new step (Ok u) is (t, a, b) = subst (λ k. IsCheckedIf k (entries_of step) (Some new)) (sym is)
    (taken_left old.clauses step new.clauses t, b ∙ sym a)

-- an error of a step that is right spends the checker
pub spent-step : (checker : Option CheckerState) (old new : CheckerState) (step : ProofStep) (r : Result (Unit {0}) CheckerError) →
    checker ≡ Some old → IfErr r (λ e. e ≡ OutOfMemory) → IsStep old step r new → IfErr r (λ e. IsSpent checker (Some new))
spent-step checker old new step (Ok u) is m h = tt
spent-step checker old new step (Err e) is m h =
    let w : IsStep old step (Err OutOfMemory) new = subst (λ x. IsStep old step (Err x) new) m h in
    subst (λ k. IsSpent k (Some new)) (sym is) w.1

-- 2. A step that is right is not answered to be wrong.
-- lines that can be derived from what a checker may hold have no wrong one
none-fails : (P : List Clause) (lines : List Line) (n : ℕ) (line : Line) (Q : List Clause) →
    CanTake (MayBePresent (Some (record { clauses = P; spent = false }))) lines → FailsAt P lines n line Q → ⊥
none-fails P lines n line Q (held, after, h, d) f =
    let (S, e, s) = derives_same held P lines lines after h.0 (same_lines-self lines) d in
    let (R, front, rest) = derives_cut P f.front (line ∷ f.back) S (subst (λ ls. Derives P ls S) f.splits e) in
    wrong_line Q R line f.back S (present_unique P P f.front R Q (same_clauses-self P) (derives_present P f.front R front)
    (derives_present P f.front Q f.derives)) f.wrong rest

can_fail : (P : List Clause) (core : List Literal) → CanFail (MayBePresent (Some (record { clauses = P; spent = false }))) core → Conflicts P core
can_fail P core (held, h, k) = conflicts_same held P core h.0 k

right_follows : (P : List Clause) (step : ProofStep) (n : ℕ) (Q : List Clause) →
    CanTakeStep (MayBePresent (Some (record { clauses = P; spent = false }))) step → DoesNotFollow P step n Q → ⊥
right_follows P (AtClause c) n Q h (d, f) = none-fails P (step_lines (AtClause c)) n (Add d) Q h f
right_follows P (UnitClauses units) n Q h (d, f) = none-fails P (step_lines (UnitClauses units)) n (Add d) Q h f
right_follows P (DeleteClause c) n Q h f = f
right_follows P (DeleteVar v) n Q h f = f
right_follows P (FailedAssumptions core) n Q h (f, e, i) = f (can_fail P core.now h)

-- no line fails where there is none
no_line : (P : List Clause) (n : ℕ) (line : Line) (Q : List Clause) → FailsAt P [] n line Q → ⊥
no_line P n line Q f = empty f.front f.splits
  where
    empty : (front : List Line) → [] ≡ front ++ line ∷ f.back → ⊥
    empty [] e = cc
    empty (l ∷ front) e = cc

right_deletes : (P : List Clause) (step : ProofStep) (n : ℕ) (d : Clause) (Q : List Clause) →
    CanTakeStep (MayBePresent (Some (record { clauses = P; spent = false }))) step → FailsAt P (step_lines step) n (Delete d) Q → ⊥
right_deletes P (AtClause c) n d Q h f = none-fails P (step_lines (AtClause c)) n (Delete d) Q h f
right_deletes P (UnitClauses units) n d Q h f = none-fails P (step_lines (UnitClauses units)) n (Delete d) Q h f
right_deletes P (DeleteClause c) n d Q h f = none-fails P (step_lines (DeleteClause c)) n (Delete d) Q h f
right_deletes P (DeleteVar v) n d Q h f = no_line P n (Delete d) Q f
right_deletes P (FailedAssumptions core) n d Q h f = no_line P n (Delete d) Q f

right_error : (P : List Clause) (new : CheckerState) (step : ProofStep) (e : CheckerError) →
    CanTakeStep (MayBePresent (Some (record { clauses = P; spent = false }))) step → IsStep (record { clauses = P; spent = false }) step (Err e) new →
    e ≡ OutOfMemory
right_error P new step (CheckFailed n) h s = absurd (right_follows P step n new.clauses h s.0)
right_error P new step (NoSuchClause n) h s = absurd (right_deletes P step n s.0.0 new.clauses h s.0.1)
right_error P new step (CoreNotAssumed n) h s = absurd s
right_error P new step (Parse offset) h s = absurd s
right_error P new step (Io cause) h s = absurd s
right_error P new step OutOfMemory h s = refl
right_error P new step (Dimacs cause) h s = absurd s
right_error P new step Spent h s = absurd cc

pub right-step : (checker : Option CheckerState) (old new : CheckerState) (step : ProofStep) (r : Result (Unit {0}) CheckerError) → checker ≡ Some old →
    IsUsable checker → CanTakeStep (MayBePresent checker) step → IsStep old step r new → IfErr r (λ e. e ≡ OutOfMemory)
right-step checker old new step (Ok u) is usable right h = tt
right-step checker old new step (Err e) is usable right h =
    let unspent : old.spent ≡ false = subst IsUsable is usable in
    let whole : old ≡ record { clauses = old.clauses; spent = false } = ap (λ (b : Bool). let s : CheckerState = record
    { clauses = old.clauses; spent = b } in s) unspent in
    right_error old.clauses new step e (subst (λ (k : CheckerState). CanTakeStep (MayBePresent (Some k)) step) whole
    (subst (λ (k : Option CheckerState). CanTakeStep (MayBePresent k) step) is right)) (subst (λ (k : CheckerState). IsStep k step (Err e) new) whole h)

-- 3. The lines and the checker.
-- other words for the same lines
pub written-as : (old new : Option OpenState) (lines others : Encoding → List ProofLine) → ((e : Encoding) → lines e ≡ others e) →
    IsWrittenIf old lines new → IsWrittenIf old others new
written-as None new lines others same w = w
written-as (Some old) None lines others same w = w
written-as (Some old) (Some new) lines others same w = subst (λ ls. IsWritten old ls new) (same (encoding_of old.format)) w

pub tells-ok : (old parts new : ProofParts) (entries : List Entry) (r : Result (Unit {0}) TraceError) → parts ≡ old → r ≡ Ok tt →
    IsWrittenIf parts.opened (logged entries) new.opened → IsCheckedIf parts.checker entries new.checker → Logs old entries r new
tells-ok old parts new entries r e is w k = subst (λ x. Logs old entries x new) (sym is)
    (subst (λ p. IsLogged p entries new) e record { written = w; checked = k })

pub tells-spent : (old parts new : ProofParts) (entries : List Entry) (r : Result (Unit {0}) TraceError) → parts ≡ old → r ≡ Err Memory →
    IsWrittenIf parts.opened (logged entries) new.opened → IsSpent parts.checker new.checker → Logs old entries r new
tells-spent old parts new entries r e is w k = subst (λ x. Logs old entries x new) (sym is)
    (subst (λ (p : ProofParts). RunsOutLogging p entries new) e (inr (w, k)))
