-- What the calls that check proofs return, over what they read.
use Rattle.std.proofs.Common.{◌≡◌, ℕ, List, true, sym, ap, subst, ◌∙◌, Some, Result, Ok, Err}
use Rattle.varisat_theory.specs.promises.Literals.{Clause, IsSatisfiable}
use Rattle.varisat_formula.specs.promises.Streams.{Input}
use Rattle.varisat_lines.specs.declared.format.ProofFormat.{ProofFormat}
use Rattle.varisat_lines.specs.declared.format.Encoding.{Encoding}
use Rattle.varisat_lines.specs.declared.format.Encoding.TheVariants.{Text}
use Rattle.varisat_proof.specs.declared.checker.error.CheckVerdict.{CheckVerdict}
use Rattle.varisat_proof.specs.declared.checker.error.CheckVerdict.TheVariants.{Refutation}
use Rattle.varisat_proof.specs.declared.checker.error.CheckerError.{CheckerError}
use Rattle.varisat_proof.specs.declared.checker.marked.MarkedReport.{MarkedReport}
use Rattle.varisat_lines.specs.promises.Lines.{plain_encoding}
use Rattle.varisat_proof.specs.promises.Marked.{MarkedLog, ProofState, nothing_logged, IsCheckOf, state_of}
use Rattle.varisat_proof.specs.promises.Results.{IsResult}
use Rattle.varisat_proof.specs.promises.Calls.{ChecksBytes, is_of_bytes, IsMarkedResult, IsTrueReport, core_lists}
use Rattle.varisat_proof.proofs.CheckedSources.{checks_ok, checks_err, checks_exact, checks_right}
use Rattle.varisat_proof.proofs.PlainResults.{plain_right, result_sound}
use Rattle.varisat_proof.proofs.MarkedReports.{report_true}

-- 1. DRAT.
plain_bytes : (format : ProofFormat) (e : Encoding) (P : List Clause) (logged : MarkedLog) (t : ProofState) (r : Result CheckVerdict CheckerError)
    (Q : List Clause) (bytes : List ℕ) → e ≡ plain_encoding format → Q ≡ t.present →
    IsCheckOf e (state_of P logged) bytes r t → IsResult format P bytes r Q
plain_bytes format e P logged t r Q bytes g q k =
    let s : ProofState = state_of P logged in
    subst (λ x. IsResult format P bytes r x) (sym q) (plain_right format P logged t bytes r (subst (λ x. IsCheckOf x s bytes r t) g k))

pub plain_ok : (format : ProofFormat) (e : Encoding) (P : List Clause) (logged : MarkedLog) (t : ProofState) (v : CheckVerdict) (Q : List Clause)
    (old new : Input) → e ≡ plain_encoding format → Q ≡ t.present →
    ChecksBytes (λ bytes. IsCheckOf e (state_of P logged) bytes (Ok v) t) old (Ok v) new → ChecksBytes (λ bytes. IsResult format P bytes (Ok v) Q) old (Ok v) new
plain_ok format e P logged t v Q old new g q k =
    let s : ProofState = state_of P logged in
    checks_ok (λ bytes. IsCheckOf e s bytes (Ok v) t) (λ bytes. IsResult format P bytes (Ok v) Q) old new v v
    (λ bytes h. plain_bytes format e P logged t (Ok v) Q bytes g q h) k

pub plain_err : (format : ProofFormat) (e : Encoding) (P : List Clause) (logged : MarkedLog) (t : ProofState) (x : CheckerError) (Q : List Clause)
    (old new : Input) → e ≡ plain_encoding format → Q ≡ t.present →
    ChecksBytes {V = CheckVerdict} (λ bytes. IsCheckOf e (state_of P logged) bytes (Err x) t) old (Err x) new →
    ChecksBytes {V = CheckVerdict} (λ bytes. IsResult format P bytes (Err x) Q) old (Err x) new
plain_err format e P logged t x Q old new g q k =
    let s : ProofState = state_of P logged in
    checks_err (λ bytes. IsCheckOf e s bytes (Err x) t) (λ bytes. IsResult format P bytes (Err x) Q) old new x
    (λ bytes h. plain_bytes format e P logged t (Err x) Q bytes g q h) k

pub check_sound : (format : ProofFormat) (P Q : List Clause) (v : CheckVerdict) (old new : Input) →
    (let r : Result CheckVerdict CheckerError = Ok v in r) ≡ Ok Refutation → ChecksBytes (λ bytes. IsResult format P bytes (Ok v) Q) old (Ok v) new →
    IsSatisfiable P → ⊥
check_sound format P Q v old new e k =
    let w = checks_right (λ bytes. IsResult format P bytes (Ok v) Q) old new v k in
    result_sound format P Q w.0 (Ok v) e w.1

pub checks_sound : (format : ProofFormat) (P Q : List Clause) (r : Result CheckVerdict CheckerError) (old new : Input) → r ≡ Ok Refutation →
    ChecksBytes (λ bytes. IsResult format P bytes r Q) old r new → IsSatisfiable P → ⊥
checks_sound format P Q (Ok v) old new e k = check_sound format P Q v old new e k
checks_sound format P Q (Err x) old new e k = absurd cc

-- 2. Marked proofs.
abbrev by_builder : List Clause → MarkedLog → MarkedLog → CheckVerdict → List Clause → List ℕ → Type 0
by_builder P none logged v Q bytes = IsCheckOf (Text true) (state_of P none) bytes (Ok v) (state_of Q logged)

-- the report of what was logged
pub record Reports {A : Type 0} (logged : MarkedLog) (v : CheckVerdict) (report : MarkedReport A) : Type 0 where
  pub verdict : report.verdict ≡ v
  pub inputs : report.inputs ≡ logged.inputs
  pub cores : core_lists report.cores.items ≡ logged.cores

marked_bytes : {A : Type 0} (P Q : List Clause) (none logged : MarkedLog) (v : CheckVerdict) (report : MarkedReport A) (bytes : List ℕ) →
    none ≡ nothing_logged → Reports logged v report → by_builder P none logged v Q bytes → IsMarkedResult P bytes (Ok report) Q
marked_bytes P Q none logged v report bytes n w k =
    let one : by_builder P nothing_logged logged v Q bytes = subst (λ x. by_builder P x logged v Q bytes) n k in
    let two : by_builder P nothing_logged logged report.verdict Q bytes = subst (λ x. by_builder P nothing_logged logged x Q bytes) (sym w.verdict) one in
    let made : MarkedLog = record { assumed = logged.assumed; inputs = report.inputs; cores = core_lists report.cores.items } in
    let same : logged ≡ made = ap (λ x. let t : MarkedLog = record { assumed = logged.assumed; inputs = x; cores = logged.cores } in t) (sym w.inputs) ∙
    ap (λ x. let t : MarkedLog = record { assumed = logged.assumed; inputs = report.inputs; cores = x } in t) (sym w.cores) in
    (logged.assumed, subst (λ x. by_builder P nothing_logged x report.verdict Q bytes) same two)

pub marked_ok : {A : Type 0} (P Q : List Clause) (none logged : MarkedLog) (v : CheckVerdict) (report : MarkedReport A) (old new : Input) →
    none ≡ nothing_logged → Reports logged v report →
    ChecksBytes (λ bytes. IsCheckOf (Text true) (state_of P none) bytes (Ok v) (state_of Q logged)) old (Ok v) new →
    ChecksBytes (λ bytes. IsMarkedResult P bytes (Ok report) Q) old (Ok report) new
marked_ok P Q none logged v report old new n w k =
    checks_ok (λ bytes. by_builder P none logged v Q bytes) (λ bytes. IsMarkedResult P bytes (Ok report) Q) old new v report
    (λ bytes h. marked_bytes P Q none logged v report bytes n w h) k

pub marked_err : {A : Type 0} (P : List Clause) (none : MarkedLog) (t : ProofState) (x : CheckerError) (Q : List Clause) (old new : Input) →
    none ≡ nothing_logged → Q ≡ t.present →
    ChecksBytes {V = CheckVerdict} (λ bytes. IsCheckOf (Text true) (state_of P none) bytes (Err x) t) old (Err x) new →
    ChecksBytes {V = MarkedReport A} (λ bytes. IsMarkedResult {A = A} P bytes (Err x) Q) old (Err x) new
marked_err {A} P none t x Q old new n q k =
    let s : MarkedLog → ProofState = λ logged. state_of P logged in
    checks_err (λ bytes. IsCheckOf (Text true) (s none) bytes (Err x) t) (λ bytes. IsMarkedResult {A = A} P bytes (Err x) Q) old new x
    (λ bytes h. (
      t.logged,
      subst (λ y. IsCheckOf (Text true) (s nothing_logged) bytes (Err x) (state_of y t.logged)) (sym q)
          (subst (λ y. IsCheckOf (Text true) (s y) bytes (Err x) t) n h),
    )) k

pub marked_err_exact : (P : List Clause) (none : MarkedLog) (t : ProofState) (x : CheckerError) (Q : List Clause) (old new : Input) (bytes : List ℕ) →
    none ≡ nothing_logged → Q ≡ t.present → old.left ≡ Some bytes → is_of_bytes x ≡ true →
    ChecksBytes {V = CheckVerdict} (λ bytes. IsCheckOf (Text true) (state_of P none) bytes (Err x) t) old (Err x) new → (logged : MarkedLog)
    × IsCheckOf (Text true) (state_of P nothing_logged) bytes (Err x) (state_of Q logged)
marked_err_exact P none t x Q old new bytes n q e i k =
    let s : MarkedLog → ProofState = λ logged. state_of P logged in
    let h = checks_exact (λ bytes. IsCheckOf (Text true) (s none) bytes (Err x) t) old new bytes (Err x) e i k in (
      t.logged,
      subst (λ y. IsCheckOf (Text true) (s nothing_logged) bytes (Err x) (state_of y t.logged)) (sym q)
          (subst (λ y. IsCheckOf (Text true) (s y) bytes (Err x) t) n h),
    )

pub marked_true : {A : Type 0} (P Q : List Clause) (report : MarkedReport A) (old new : Input) →
    ChecksBytes (λ bytes. IsMarkedResult P bytes (Ok report) Q) old (Ok report) new → IsTrueReport P report
marked_true P Q report old new k =
    let w = checks_right (λ bytes. IsMarkedResult P bytes (Ok report) Q) old new report k in
    report_true P Q w.0 report w.1
