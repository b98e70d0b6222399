-- Texts that are taken or not, and what a check of a proof against their clauses returns.
use Rattle.std.proofs.Common.{◌≡◌, ◌≢◌, ℕ, ◌++◌, List, [], Option, Some, None, Result, Ok, Err, IfErr, true, false, ◌⊎◌, ⊎_elim, refl, sym, ap, subst, ◌∙◌, append_assoc, arith}
use Rattle.std.specs.Io.KnownBytes.{Consumes}
use Rattle.varisat_theory.specs.promises.Literals.{Clause, IsSatisfiable}
use Rattle.varisat_formula.specs.declared.dimacs.error.DimacsError.{DimacsError}
use Rattle.varisat_formula.specs.declared.dimacs.error.DimacsErrorKind.TheVariants as kind
use Rattle.varisat_formula.specs.promises.Dimacs.{Reading, dimacs}
use Rattle.varisat_formula.specs.promises.Streams.{Input, Reads, HasEnded}
use Rattle.varisat_formula.specs.promises.Parsed.{GivesReading, Whole, FaultInText, TextFailed, ReaderRanOut}
use Rattle.varisat_lines.specs.declared.format.Encoding.TheVariants.{Text}
use Rattle.varisat_lines.specs.declared.format.ProofFormat.{ProofFormat}
use Rattle.varisat_lines.specs.declared.format.ProofFormat.TheVariants.{Drat, BinaryDrat, Marked}
use Rattle.varisat_proof.specs.declared.checker.error.CheckVerdict.{CheckVerdict}
use Rattle.varisat_proof.specs.declared.checker.error.CheckVerdict.TheVariants.{Refutation}
use Rattle.varisat_proof.specs.declared.checker.error.CheckerError.{CheckerError}
use Rattle.varisat_proof.specs.declared.checker.error.CheckerError.TheVariants.{CheckFailed, NoSuchClause, CoreNotAssumed, Parse, Io, OutOfMemory, Dimacs, Spent}
use Rattle.varisat_proof.specs.declared.checker.marked.MarkedReport.{MarkedReport}
use Rattle.varisat_proof.specs.promises.Calls.{CheckerState, at_input, IsTrueReport, IsOfBytes, is_io, ChecksBytes, AtEnd, InText, SourceFailed, RanOut, AddsText, Added, ClauseRanOut, Unread, IsMarkedResult, reported}
use Rattle.varisat_proof.specs.promises.Marked.{nothing_logged, state_of, IsCheckOf}
use Rattle.varisat_proof.specs.promises.DratChecks.{IsDratResult}
use Rattle.varisat_proof.specs.promises.Verified.{AreGiven, IsMarkedCheck}
use Rattle.varisat_proof.proofs.VerifiedTexts.{given_satisfied}
use Rattle.varisat_calls.specs.Checks as checks
use Rattle.varisat_calls.specs.Checks.{new_checker, ReturnsResult, ReturnsDrat, ReturnsMarked, ReturnsProof, ReturnsCheck, FailsText, HasFault}
use Rattle.varisat_calls.proofs.Fronts.{fault-of-front}

-- a marked proof from no clause refutes the clauses that it was given, and so those among which these are
pub marked-refutes : {A : Type 0} (P given : List Clause) (report : MarkedReport A) → P ≡ [] → IsTrueReport P report →
    AreGiven given report.inputs.clauses → report.verdict ≡ Refutation → IsSatisfiable given → ⊥
marked-refutes P given report none right are refutes sat =
    right.refutation refutes
    (subst (λ Q. IsSatisfiable (Q ++ report.inputs.clauses)) (sym none) (given_satisfied given report.inputs.clauses are sat))

-- 1. Texts.

-- what was read of known bytes is a front of them
front-read : (left : Option (List ℕ)) (bytes front : List ℕ) → Consumes (Some bytes) left front → (rest : List ℕ) × (bytes ≡ front ++ rest)
front-read None bytes front c = absurd c
front-read (Some rest) bytes front c = (rest, c)

-- so it is of a source
front-of : (s t : Input) (bytes front : List ℕ) → s.left ≡ Some bytes → Reads s front t → (rest : List ℕ) × (bytes ≡ front ++ rest)
front-of s t bytes front is reads = front-read t.left bytes front (subst (λ o. Consumes o t.left front) is reads.consumed)

-- the fault that a text gives, over a source of known bytes that did not fail
fault-given : (text : List ℕ) (s t : Input) (reading : Reading) (cause : DimacsError) → s.left ≡ Some text →
    ((front : List ℕ) → Reads s front t → HasEnded t → front ≡ text) → t.faults ≡ s.faults → cause.kind ≢ kind.OutOfMemory →
    reading.fault ≡ Some cause → GivesReading s reading t → FailsText text (Dimacs cause)
fault-given text s t reading cause is known still room f (Whole whole reads ended quiet given) =
    HasFault cause (ap (λ x. (dimacs x).fault) (sym (known whole reads ended)) ∙ (ap (λ x. x.fault) (sym given) ∙ f)) refl
fault-given text s t reading cause is known still room f (FaultInText front reads quiet given some) =
    let (rest, e) = front-of s t text front is reads in
    HasFault cause (ap (λ x. (dimacs x).fault) e ∙ (ap (λ x. x.fault) (given rest) ∙ f)) refl
fault-given text s t reading cause is known still room f (TextFailed front reads risen given) = absurd (omega (arith, still, risen))
fault-given text s t reading cause is known still room f (ReaderRanOut front more reads out quiet given) =
    let (rest, e) = front-of s t text (front ++ more) is reads in
    HasFault cause
    (ap (λ x. (dimacs x).fault) (e ∙ append_assoc front more rest)
    ∙ fault-of-front kind.OutOfMemory front (more ++ rest) cause (ap (λ x. x.fault) (sym given) ∙ f) room)
    refl

-- a new checker does not take a text
text-fails : (text : List ℕ) (s t : Input) (old new : CheckerState) (e : CheckerError) → s.left ≡ Some text →
    ((front : List ℕ) → Reads s front t → HasEnded t → front ≡ text) → t.faults ≡ s.faults → old.spent ≡ false →
    AddsText (at_input old s) (Err e) (at_input new t) → FailsText text e
text-fails text s t old new e is known still usable (ClauseRanOut front reads same refused) = checks.RanOut (let y : e ≡ OutOfMemory = cc in y)
text-fails text s t old new (Dimacs cause) is known still usable (Added reading gives adds) =
    fault-given text s t reading cause is known still adds.1 adds.0 gives
text-fails text s t old new OutOfMemory is known still usable (Added reading gives adds) = checks.RanOut refl
text-fails text s t old new (CheckFailed n) is known still usable (Added reading gives adds) = absurd adds
text-fails text s t old new (NoSuchClause n) is known still usable (Added reading gives adds) = absurd adds
text-fails text s t old new (CoreNotAssumed n) is known still usable (Added reading gives adds) = absurd adds
text-fails text s t old new (Parse n) is known still usable (Added reading gives adds) = absurd adds
text-fails text s t old new (Io x) is known still usable (Added reading gives adds) = absurd adds
text-fails text s t old new Spent is known still usable (Added reading gives adds) = absurd adds
text-fails text s t old new e is known still usable (Unread same refused stays) =
    absurd (let y : true ≡ false = sym refused.0 ∙ usable in cc)

-- so it is of any answer
pub unless-taken : (text : List ℕ) (s t : Input) (old new : CheckerState) (r : Result (Unit {0}) CheckerError) → s.left ≡ Some text →
    ((front : List ℕ) → Reads s front t → HasEnded t → front ≡ text) → t.faults ≡ s.faults → old.spent ≡ false →
    AddsText (at_input old s) r (at_input new t) → IfErr r (FailsText text)
unless-taken text s t old new (Ok u) is known still usable adds = tt
unless-taken text s t old new (Err e) is known still usable adds = text-fails text s t old new e is known still usable adds

-- 2. Proofs.

-- no check of a proof returns a fault of a text
never-text : {V : Type 0} (right : List ℕ → Type 0) (s t : Input) (x : DimacsError) → ((bytes : List ℕ) → right bytes → ⊥) →
    ChecksBytes {V = V} right s (Err (Dimacs x)) t → ⊥
never-text right s t x never (AtEnd text reads ended quiet is) = never text is
never-text right s t x never (InText text reads quiet is) = never (text ++ []) (is [])
never-text right s t x never (SourceFailed text reads risen e same io) = let y : Dimacs x ≡ e = cc in let z : false ≡ true = ap is_io y ∙ io in cc
never-text right s t x never (RanOut text reads quiet same) = absurd cc

-- what a check of DRAT lines returns
pub drat-returned : (f : ProofFormat) (P Q : List Clause) (proof : List ℕ) (s t : Input) (r : Result CheckVerdict CheckerError) (number place : ℕ) →
    (IsOfBytes r → IsDratResult f P proof r Q) → ChecksBytes (λ bytes. IsDratResult f P bytes r Q) s r t → ReturnsResult r number place →
    ReturnsDrat f P proof number place
drat-returned f P Q proof s t (Ok v) number place right of is = checks.Checked (Ok v) Q (right tt) is
drat-returned f P Q proof s t (Err (CheckFailed n)) number place right of is = checks.Checked (Err (CheckFailed n)) Q (right refl) is
drat-returned f P Q proof s t (Err (NoSuchClause n)) number place right of is = checks.Checked (Err (NoSuchClause n)) Q (right refl) is
drat-returned f P Q proof s t (Err (CoreNotAssumed n)) number place right of is = checks.Checked (Err (CoreNotAssumed n)) Q (right refl) is
drat-returned f P Q proof s t (Err (Parse n)) number place right of is = checks.Checked (Err (Parse n)) Q (right refl) is
drat-returned f P Q proof s t (Err (Io x)) number place right of is = checks.NoRoom is.0 is.1
drat-returned f P Q proof s t (Err OutOfMemory) number place right of is = checks.NoRoom is.0 is.1
drat-returned f P Q proof s t (Err (Dimacs x)) number place right of is =
    absurd (never-text (λ bytes. IsDratResult f P bytes (Err (Dimacs x)) Q) s t x (λ bytes i. i.stops) of)
drat-returned f P Q proof s t (Err Spent) number place right of is = checks.NoRoom is.0 is.1

-- a check of a marked proof by a new checker that comes to a report
pub marked-checked : {A : Type 0} (old : CheckerState) (Q : List Clause) (proof : List ℕ) (report : MarkedReport A) →
    old ≡ new_checker → IsMarkedResult old.clauses proof (Ok report) Q →
    IsMarkedCheck proof (Ok report.verdict) report.inputs.clauses Q
marked-checked old Q proof report new (assumed, is) = (
  reported assumed report,
  refl,
  subst (λ (P : List Clause). IsCheckOf (Text true) (state_of P nothing_logged) proof (Ok report.verdict) (state_of Q (reported assumed report)))
      (ap (λ x. x.clauses) new) is,
)

-- or to none
pub marked-failed : {A : Type 0} (given Q : List Clause) (old : CheckerState) (proof : List ℕ) (s t : Input) (e : CheckerError) (number place : ℕ) →
    old ≡ new_checker → (IsOfBytes {V = MarkedReport A} (Err e) → IsMarkedResult {A = A} old.clauses proof (Err e) Q) →
    ChecksBytes {V = MarkedReport A} (λ bytes. IsMarkedResult {A = A} old.clauses bytes (Err e) Q) s (Err e) t → ReturnsResult (Err e) number place →
    ReturnsMarked given proof number place
marked-failed {A} given Q old proof s t e number place new right of is = by e right of is where
  wrong : (x : CheckerError) → IsMarkedResult {A = A} old.clauses proof (Err x) Q → IsMarkedCheck proof (Err x) [] Q
  wrong x (logged, i) = (
    logged,
    subst (λ (P : List Clause). IsCheckOf (Text true) (state_of P nothing_logged) proof (Err x) (state_of Q logged)) (ap (λ y. y.clauses) new) i,
  )

  by : (x : CheckerError) → (IsOfBytes {V = MarkedReport A} (Err x) → IsMarkedResult {A = A} old.clauses proof (Err x) Q) →
      ChecksBytes {V = MarkedReport A} (λ bytes. IsMarkedResult {A = A} old.clauses bytes (Err x) Q) s (Err x) t → ReturnsResult (Err x) number place →
      ReturnsMarked given proof number place
  by (CheckFailed n) right of is = checks.Wrong (CheckFailed n) Q (wrong (CheckFailed n) (right refl)) is
  by (NoSuchClause n) right of is = checks.Wrong (NoSuchClause n) Q (wrong (NoSuchClause n) (right refl)) is
  by (CoreNotAssumed n) right of is = checks.Wrong (CoreNotAssumed n) Q (wrong (CoreNotAssumed n) (right refl)) is
  by (Parse n) right of is = checks.Wrong (Parse n) Q (wrong (Parse n) (right refl)) is
  by (Io x) right of is = checks.NoRoom is.0 is.1
  by OutOfMemory right of is = checks.NoRoom is.0 is.1
  by (Dimacs x) right of is =
      absurd (never-text (λ bytes. IsMarkedResult {A = A} old.clauses bytes (Err (Dimacs x)) Q) s t x (λ bytes i. i.1.stops) of)
  by Spent right of is = checks.NoRoom is.0 is.1

-- 3. Both.

-- a proof was checked against the clauses of the text
checked-text : (f : ProofFormat) (text proof : List ℕ) (P : List Clause) (number place : ℕ) → (dimacs text).fault ≡ None →
    P ≡ (dimacs text).clauses → ReturnsProof f P proof number place → ReturnsCheck (Some f) text proof number place
checked-text f text proof P number place fine own is =
    checks.Checked f refl fine (subst (λ (cs : List Clause). ReturnsProof f cs proof number place) own is)

-- a marked one
pub marked-text : (f : ProofFormat) (text proof : List ℕ) (P : List Clause) (number place : ℕ) → (dimacs text).fault ≡ None →
    P ≡ (dimacs text).clauses → f ≡ Marked → ReturnsMarked P proof number place → ReturnsCheck (Some f) text proof number place
marked-text f text proof P number place fine own same is =
    checked-text f text proof P number place fine own (subst (λ x. ReturnsProof x P proof number place) (sym same) is)

-- or a DRAT proof
pub drat-text : (f : ProofFormat) (text proof : List ℕ) (P : List Clause) (number place : ℕ) → (dimacs text).fault ≡ None →
    P ≡ (dimacs text).clauses → (f ≡ Drat) ⊎ (f ≡ BinaryDrat) → ReturnsDrat f P proof number place → ReturnsCheck (Some f) text proof number place
drat-text Drat text proof P number place fine own same is = checked-text Drat text proof P number place fine own is
drat-text BinaryDrat text proof P number place fine own same is = checked-text BinaryDrat text proof P number place fine own is
drat-text Marked text proof P number place fine own same is = absurd (⊎_elim (λ (e : Marked ≡ Drat). absurd cc) (λ (e : Marked ≡ BinaryDrat). absurd cc) same)
