-- A check of DRAT lines.
use Rattle.std.proofs.Common.{◌≡◌, ℕ, List, [], ◌∷◌, ◌++◌, inl, inr, refl, sym, ap, ◌∙◌, subst, Result, Ok, Err}
use Rattle.varisat_theory.specs.promises.Literals.{Clause, IsSatisfiable}
use Rattle.varisat_theory.specs.promises.Derivations.{Add, Delete}
use Rattle.varisat_theory.proofs.clauses.RatLines.{rat_sound, drat_line_sound, drat_refutes}
use Rattle.varisat_formula.specs.promises.Streams.{Input}
use Rattle.varisat_rat.specs.declared.present.Deletion.{Deletion}
use Rattle.varisat_rat.specs.declared.present.Deletion.TheVariants as deletion
use Rattle.varisat_rat.specs.promises.Resolving.{IsDeletionOf}
use Rattle.varisat_rat.proofs.RatPlaces.{pivot_is_rat}
use Rattle.varisat_lines.specs.declared.format.Encoding.{Encoding}
use Rattle.varisat_lines.specs.declared.format.LineKind.{LineKind}
use Rattle.varisat_lines.specs.declared.format.LineKind.TheVariants.{Adds, Deletes, Accepts, Assumes, Fails}
use Rattle.varisat_lines.specs.declared.format.ProofFormat.{ProofFormat}
use Rattle.varisat_proof.specs.declared.checker.drat.Redundancy.{Redundancy}
use Rattle.varisat_proof.specs.declared.checker.drat.Redundancy.TheVariants as why
use Rattle.varisat_proof.specs.declared.checker.line.LineStatus.{LineStatus}
use Rattle.varisat_proof.specs.declared.checker.line.LineStatus.TheVariants.{Taken, Unproved, Absent, Unassumed}
use Rattle.varisat_proof.specs.declared.checker.error.CheckVerdict.{CheckVerdict}
use Rattle.varisat_proof.specs.declared.checker.error.CheckVerdict.TheVariants.{Refutation}
use Rattle.varisat_proof.specs.declared.checker.error.CheckerError.{CheckerError}
use Rattle.varisat_lines.specs.promises.Lines.{ProofLine, line_of_kind, plain_encoding}
use Rattle.varisat_proof.specs.promises.Marked.{MarkedLog, ProofState, nothing_logged, state_of, GoesBy, IsCheckBy}
use Rattle.varisat_proof.specs.inside.Checks.{IsLineStatus}
use Rattle.varisat_proof.specs.promises.Calls.{ChecksBytes}
use Rattle.varisat_proof.specs.promises.DratChecks.{TakesDratKind, IsRedundancyOf, IsDratStatusOf, drat_rules, IsDratResult}
use Rattle.varisat_proof.proofs.CheckedSources.{checks_ok, checks_err, checks_right}

-- 1. One line.
pub follows_added : (P Q : List Clause) (c : Clause) (r : Redundancy) → r ≡ why.Follows → IsRedundancyOf P c r → Q ≡ P ++ (c ∷ []) →
    TakesDratKind P Adds c Q
follows_added P Q c r e h q = (inl (subst (IsRedundancyOf P c) e h), q)

pub rat_added : (P Q : List Clause) (c : Clause) (r : Redundancy) (place : ℕ) → r ≡ why.Rat place → IsRedundancyOf P c r → Q ≡ P ++ (c ∷ []) →
    TakesDratKind P Adds c Q
rat_added P Q c r place e h q = (inr (pivot_is_rat P c place (subst (IsRedundancyOf P c) e h)), q)

pub neither_added : (P Q : List Clause) (c : Clause) (r : Redundancy) → r ≡ why.Neither → IsRedundancyOf P c r → Q ≡ P →
    IsDratStatusOf P Adds c Unproved Q
neither_added P Q c r e h q = (subst (IsRedundancyOf P c) e h, q)

pub deletion_line : (P Q : List Clause) (c : Clause) (d : Deletion) → IsDeletionOf P c d Q → TakesDratKind P Deletes c Q
deletion_line P Q c deletion.Taken h = inr h
deletion_line P Q c deletion.Kept h = inl (inr h.1, h.2)
deletion_line P Q c deletion.Absent h = inl (inl h.0, h.1)

pub drat_status : (P Q : List Clause) (logged : MarkedLog) (kind : LineKind) (c : Clause) (status : LineStatus) → IsDratStatusOf P kind c status Q →
    IsLineStatus drat_rules (state_of P logged) (line_of_kind kind c) status (state_of Q logged)
drat_status P Q logged kind c Taken h = (h, refl)
drat_status P Q logged kind c Unproved h = (h.0, ap (λ x. let s : ProofState = state_of x logged in s) h.1)
drat_status P Q logged kind c Absent h = (h.0, ap (λ x. let s : ProofState = state_of x logged in s) h.1)
drat_status P Q logged kind c Unassumed h = (h.0, ap (λ x. let s : ProofState = state_of x logged in s) h.1)

-- 2. Lines keep clauses satisfiable.
line_sound : (P Q : List Clause) (kind : LineKind) (c : Clause) → TakesDratKind P kind c Q → IsSatisfiable P → IsSatisfiable Q
line_sound P Q Adds c (inl f, q) s = drat_line_sound P (Add c) Q (inl f, q) s
line_sound P Q Adds c (inr r, q) s = subst IsSatisfiable (sym q) (rat_sound P c r.0 r.1 r.2 s)
line_sound P Q Deletes c (inl (p, q)) s = subst IsSatisfiable (sym q) s
line_sound P Q Deletes c (inr (t, n)) s = drat_line_sound P (Delete c) Q (inl t) s
line_sound P Q Accepts c q s = subst IsSatisfiable (sym q) s
line_sound P Q Assumes c q s = subst IsSatisfiable (sym q) s
line_sound P Q Fails c q s = subst IsSatisfiable (sym q) s

goes_sound : (lines : List ProofLine) (s t : ProofState) → GoesBy drat_rules s lines t → IsSatisfiable s.present → IsSatisfiable t.present
goes_sound [] s t g h = subst (λ (x : ProofState). IsSatisfiable x.present) g h
goes_sound (line ∷ lines) s t g h = goes_sound lines g.1 t g.3 (line_sound s.present g.1.present line.kind line.clause g.2.0 h)

-- 3. Results.
goes_told : (lines : List ProofLine) (s t : ProofState) → GoesBy drat_rules s lines t → t.logged ≡ s.logged
goes_told [] s t g = sym (ap (λ x. x.logged) g)
goes_told (line ∷ lines) s t g = goes_told lines g.1 t g.3 ∙ g.2.1

drat_bytes : (format : ProofFormat) (e : Encoding) (P : List Clause) (logged : MarkedLog) (t : ProofState) (r : Result CheckVerdict CheckerError)
    (Q : List Clause) (bytes : List ℕ) → e ≡ plain_encoding format → logged ≡ nothing_logged → Q ≡ t.present →
    IsCheckBy drat_rules e (state_of P logged) bytes r t → IsDratResult format P bytes r Q
drat_bytes format e P logged t r Q bytes g n q k =
    let from : MarkedLog → ProofState = λ x. state_of P x in
    let h : t.logged ≡ nothing_logged = goes_told k.front (from logged) t k.goes ∙ n in
    let same : t ≡ state_of Q nothing_logged =
    ap (λ x. let s : ProofState = state_of x t.logged in s) (sym q) ∙ ap (λ x. let s : ProofState = state_of Q x in s) h in
    subst (λ (x : ProofState). IsCheckBy drat_rules (plain_encoding format) (from nothing_logged) bytes r x) same
    (subst (λ x. IsCheckBy drat_rules (plain_encoding format) (from x) bytes r t) n
    (subst (λ x. IsCheckBy drat_rules x (from logged) bytes r t) g k))

pub drat_ok : (format : ProofFormat) (e : Encoding) (P : List Clause) (logged : MarkedLog) (t : ProofState) (v : CheckVerdict) (Q : List Clause)
    (old new : Input) → e ≡ plain_encoding format → logged ≡ nothing_logged → Q ≡ t.present →
    ChecksBytes (λ bytes. IsCheckBy drat_rules e (state_of P logged) bytes (Ok v) t) old (Ok v) new →
    ChecksBytes (λ bytes. IsDratResult format P bytes (Ok v) Q) old (Ok v) new
drat_ok format e P logged t v Q old new g n q k =
    let s : ProofState = state_of P logged in
    checks_ok (λ bytes. IsCheckBy drat_rules e s bytes (Ok v) t) (λ bytes. IsDratResult format P bytes (Ok v) Q) old new v v
    (λ bytes h. drat_bytes format e P logged t (Ok v) Q bytes g n q h) k

pub drat_err : (format : ProofFormat) (e : Encoding) (P : List Clause) (logged : MarkedLog) (t : ProofState) (x : CheckerError) (Q : List Clause)
    (old new : Input) → e ≡ plain_encoding format → logged ≡ nothing_logged → Q ≡ t.present →
    ChecksBytes {V = CheckVerdict} (λ bytes. IsCheckBy drat_rules e (state_of P logged) bytes (Err x) t) old (Err x) new →
    ChecksBytes {V = CheckVerdict} (λ bytes. IsDratResult format P bytes (Err x) Q) old (Err x) new
drat_err format e P logged t x Q old new g n q k =
    let s : ProofState = state_of P logged in
    checks_err (λ bytes. IsCheckBy drat_rules e s bytes (Err x) t) (λ bytes. IsDratResult format P bytes (Err x) Q) old new x
    (λ bytes h. drat_bytes format e P logged t (Err x) Q bytes g n q h) k

-- 4. A refutation is one of the clauses at entry.
refuted_sound : (format : ProofFormat) (P Q : List Clause) (bytes : List ℕ) → IsDratResult format P bytes (Ok Refutation) Q → IsSatisfiable P → ⊥
refuted_sound format P Q bytes k s = drat_refutes Q [] Q refl k.stops.1 (goes_sound k.front (state_of P nothing_logged) (state_of Q nothing_logged) k.goes s)

pub drat_check_sound : (format : ProofFormat) (P Q : List Clause) (v : CheckVerdict) (old new : Input) → v ≡ Refutation →
    ChecksBytes (λ bytes. IsDratResult format P bytes (Ok v) Q) old (Ok v) new → IsSatisfiable P → ⊥
drat_check_sound format P Q v old new e k =
    let w = checks_right (λ bytes. IsDratResult format P bytes (Ok v) Q) old new v k in
    refuted_sound format P Q w.0 (subst (λ (x : CheckVerdict). IsDratResult format P w.0 (Ok x) Q) e w.1)

pub drat_checks_sound : (format : ProofFormat) (P Q : List Clause) (r : Result CheckVerdict CheckerError) (old new : Input) → r ≡ Ok Refutation →
    ChecksBytes (λ bytes. IsDratResult format P bytes r Q) old r new → IsSatisfiable P → ⊥
drat_checks_sound format P Q (Ok v) old new e k = let h : v ≡ Refutation = cc in drat_check_sound format P Q v old new h k
drat_checks_sound format P Q (Err x) old new e k = absurd cc
