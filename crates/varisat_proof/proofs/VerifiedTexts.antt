-- A text whose clauses a proof is checked against.
use Rattle.std.proofs.Common.{◌≡◌, ℕ, List, [], Bool, true, false, Option, Some, None, Result, Ok, Err, refl, sym, ap, subst, ◌∙◌, arith, ◌∷◌, ◌++◌, inl, inr, ⊎_elim}
use Rattle.varisat_theory.specs.promises.Membership.{◌∈◌, SameSet}
use Rattle.varisat_theory.specs.promises.Literals.{Clause, IsSatisfiable}
use Rattle.varisat_theory.proofs.clauses.Members.{∈-append_right, ∈-append_cases}
use Rattle.varisat_formula.specs.promises.Dimacs.{Reading}
use Rattle.varisat_formula.specs.promises.Streams.{Input, Taken}
use Rattle.varisat_formula.specs.promises.Parsed.{GivesReading}
use Rattle.varisat_formula.proofs.ParsedSources.{gives_whole}
use Rattle.varisat_lines.specs.declared.format.ProofFormat.{ProofFormat}
use Rattle.varisat_lines.specs.declared.format.ProofFormat.TheVariants.{Drat, BinaryDrat, Marked}
use Rattle.varisat_lines.specs.declared.format.Encoding.TheVariants.{Text}
use Rattle.varisat_proof.specs.declared.checker.marked.MarkedReport.{MarkedReport}
use Rattle.varisat_proof.specs.declared.checker.error.CheckVerdict.{CheckVerdict}
use Rattle.varisat_proof.specs.declared.checker.error.CheckVerdict.TheVariants.{Refutation, Derivation}
use Rattle.varisat_proof.specs.declared.checker.error.CheckerError.{CheckerError}
use Rattle.varisat_proof.specs.declared.checker.error.CheckerError.TheVariants.{CheckFailed, NoSuchClause, CoreNotAssumed, Parse, Io, OutOfMemory, Dimacs, Spent}
use Rattle.varisat_proof.specs.promises.Calls.{CheckerState, Checks, ChecksBytes, ChecksMarked, IsMarkedResult, core_lists, AddsText, Added, ClauseRanOut, Unread, AtEnd, InText, SourceFailed, RanOut, is_of_bytes, is_io}
use Rattle.varisat_proof.specs.promises.Marked.{MarkedLog, nothing_logged, IsCheckOf, state_of}
use Rattle.varisat_proof.specs.promises.Results.{IsResult, result_of}
use Rattle.varisat_plain.specs.declared.checker.PlainVerdict.{PlainVerdict}
use Rattle.varisat_plain.specs.declared.checker.PlainVerdict.TheVariants as plain
use Rattle.varisat_proof.specs.promises.Verified.{FailsToRead, FailsCheck, AsRead, AsChecked, AreGiven, IsMarkedCheck, IsMarkedVerdict, VerifiesMarked, VerifiesBy, EndsPrinting, GivesClauses, GivesUnsatisfiable, Sources, Verifies, VerifiesDrat, verdict_of, verdict_status}
use Rattle.varisat_proof.specs.promises.DratChecks.{ChecksDrat, IsDratResult}
use Rattle.varisat_proof.proofs.CheckResults.{checks_sound}
use Rattle.varisat_proof.proofs.DratCheck.{drat_checks_sound}
use Rattle.varisat_proof.proofs.CheckedSources.{checks_ok, checks_err, checks_right}
use Rattle.varisat_proof.proofs.MarkedReports.{refutation_sound}

whole_text : (s t : Input) (reading : Reading) → GivesReading s reading t → reading.fault ≡ None → GivesClauses s reading.clauses t
whole_text s t reading g f =
    let w = gives_whole s t reading g f in
    record {
      text = w.text;
      reads = w.reads;
      ended = w.ended;
      quiet = w.quiet;
      fine = ap (λ x. x.fault) (sym w.is) ∙ f;
      clauses_are = ap (λ x. x.clauses) w.is;
    }

-- a new checker took the text
record Took (s t : Input) (mid : CheckerState) : Type 0 where
  given : GivesClauses s mid.clauses t
  now : mid ≡ record { clauses = mid.clauses; spent = false }

took : (s t : Input) (mid : CheckerState) → AddsText (record { checker = record { clauses = []; spent = false }; source = s }) (Ok tt)
    (record { checker = mid; source = t }) → Took s t mid
took s t mid (Added reading g a) =
    let e : mid ≡ record { clauses = reading.clauses; spent = false } = a.1.now in
    record {
      given = subst (λ cs. GivesClauses s cs t) (sym (ap (λ x. x.clauses) e)) (whole_text s t reading g a.0);
      now = e ∙ ap (λ cs. let made : CheckerState = record { clauses = cs; spent = false } in made) (sym (ap (λ x. x.clauses) e));
    }
took s t mid (ClauseRanOut text r e h) = absurd cc
took s t mid (Unread e h g) = absurd cc

pub verifies : (f : ProofFormat) (s t p q : Input) (start mid new : CheckerState) (r : Result CheckVerdict CheckerError) (v : Bool) →
    start ≡ record { clauses = []; spent = false } →
    AddsText (record { checker = start; source = s }) (Ok tt) (record { checker = mid; source = t }) →
    (mid.spent ≡ false → Checks f (record { checker = mid; source = p }) r (record { checker = new; source = q })) →
    verdict_of r ≡ Some v → Verifies f (record { cnf = s; proof = p }) (record { cnf = t; proof = q }) v
verifies f s t p q start mid new r v e a c d =
    let w = took s t mid (subst (λ x. AddsText (record { checker = x; source = s }) (Ok tt) (record { checker = mid; source = t })) e a) in
    record {
      clauses = mid.clauses;
      given = w.given;
      left = new;
      result_is = r;
      checks = subst (λ x. Checks f (record { checker = x; source = p }) r (record { checker = new; source = q })) w.now (c (ap (λ x. x.spent) w.now));
      verdict = d;
    }

is_refutation : (r : Result CheckVerdict CheckerError) → verdict_of r ≡ Some true → r ≡ Ok Refutation
is_refutation (Ok Refutation) e = refl
is_refutation (Ok Derivation) e = absurd cc
is_refutation (Err (CheckFailed n)) e = absurd cc
is_refutation (Err (NoSuchClause n)) e = absurd cc
is_refutation (Err (CoreNotAssumed n)) e = absurd cc
is_refutation (Err (Parse o)) e = absurd cc
is_refutation (Err (Io x)) e = absurd cc
is_refutation (Err OutOfMemory) e = absurd cc
is_refutation (Err (Dimacs x)) e = absurd cc
is_refutation (Err Spent) e = absurd cc

pub verified_unsatisfiable : (f : ProofFormat) (old new : Sources) (v : Bool) → v ≡ true → Verifies f old new v → GivesUnsatisfiable old.cnf new.cnf
verified_unsatisfiable f old new v e w =
    (w.clauses, w.given, checks_sound f w.clauses w.left.clauses w.result_is old.proof new.proof (is_refutation w.result_is (w.verdict ∙ ap Some e)) w.checks)

-- a check of a marked proof by a new checker
pub marked_ok : {A : Type 0} (other new : CheckerState) (report : MarkedReport A) (p q : Input) → other ≡ record { clauses = []; spent = false } →
    (other.spent ≡ false → ChecksMarked (record { checker = other; source = p }) (Ok report) (record { checker = new; source = q })) →
    ChecksBytes {V = CheckVerdict} (λ bytes. IsMarkedCheck bytes (Ok report.verdict) report.inputs.clauses new.clauses) p (Ok report.verdict) q
marked_ok other new report p q e h =
    checks_ok (λ bytes. IsMarkedResult other.clauses bytes (Ok report) new.clauses)
    (λ bytes. IsMarkedCheck bytes (Ok report.verdict) report.inputs.clauses new.clauses) p q report report.verdict
    (λ bytes k. let t : MarkedLog = record { assumed = k.0; inputs = report.inputs; cores = core_lists report.cores.items } in (
      t,
      refl,
      subst (λ (P : List Clause). IsCheckOf (Text true) (state_of P nothing_logged) bytes (Ok report.verdict) (state_of new.clauses t))
          (ap (λ x. x.clauses) e) k.1,
    )) (h (ap (λ x. x.spent) e))

pub marked_err : {A : Type 0} (other new : CheckerState) (x : CheckerError) (p q : Input) → other ≡ record { clauses = []; spent = false } →
    (other.spent ≡ false → ChecksBytes {V = MarkedReport A} (λ bytes. (logged : MarkedLog)
    × IsCheckOf (Text true) (state_of other.clauses nothing_logged) bytes (Err x) (state_of new.clauses logged)) p (Err x) q) →
    ChecksBytes {V = CheckVerdict} (λ bytes. IsMarkedCheck bytes (Err x) [] new.clauses) p (Err x) q
marked_err other new x p q e h =
    checks_err (λ bytes. (logged : MarkedLog) × IsCheckOf (Text true) (state_of other.clauses nothing_logged) bytes (Err x) (state_of new.clauses logged))
    (λ bytes. IsMarkedCheck bytes (Err x) [] new.clauses) p q x
    (λ bytes k. (
      k.0,
      subst (λ (P : List Clause). IsCheckOf (Text true) (state_of P nothing_logged) bytes (Err x) (state_of new.clauses k.0))
          (ap (λ x. x.clauses) e) k.1,
    )) (h (ap (λ x. x.spent) e))

pub verifies_marked : (s t p q : Input) (start mid : CheckerState) (r : Result CheckVerdict CheckerError) (inputs Q : List Clause) (v : Bool) →
    start ≡ record { clauses = []; spent = false } →
    AddsText (record { checker = start; source = s }) (Ok tt) (record { checker = mid; source = t }) →
    ChecksBytes {V = CheckVerdict} (λ bytes. IsMarkedCheck bytes r inputs Q) p r q → IsMarkedVerdict mid.clauses r inputs v →
    VerifiesMarked (record { cnf = s; proof = p }) (record { cnf = t; proof = q }) v
verifies_marked s t p q start mid r inputs Q v e a c d =
    let w = took s t mid (subst (λ x. AddsText (record { checker = x; source = s }) (Ok tt) (record { checker = mid; source = t })) e a) in
    record { clauses = mid.clauses; given = w.given; result_is = r; inputs = inputs; left = Q; checks = c; verdict = d }

pub next_among : (xs rest all : List Clause) (c : Clause) → xs ++ c ∷ rest ≡ all → c ∈ all
next_among xs rest all c e = subst (λ x. c ∈ x) e (∈-append_right c xs (c ∷ rest) (inl refl))

pub given_more : (P cs : List Clause) (c : Clause) → AreGiven P cs → ((d : Clause) × (d ∈ P) × SameSet d c) → AreGiven P (cs ++ c ∷ [])
given_more P cs c g w x m = ⊎_elim (λ k. g x k) (λ k. ⊎_elim (λ e. subst (λ y. (d : Clause) × (d ∈ P) × SameSet d y) (sym e) w) (λ z. absurd z) k)
    (∈-append_cases x cs (c ∷ []) m)

pub given_satisfied : (P cs : List Clause) → AreGiven P cs → IsSatisfiable P → IsSatisfiable cs
given_satisfied P cs g (a, s) = (a, λ c m. let w = g c m in let x = s w.0 w.1 in (x.0, w.2.0 x.0 x.1, x.2))

marked_refutes : (P inputs Q : List Clause) (r : Result CheckVerdict CheckerError) (old new : Input) →
    ChecksBytes {V = CheckVerdict} (λ bytes. IsMarkedCheck bytes r inputs Q) old r new → IsMarkedVerdict P r inputs true → IsSatisfiable P → ⊥
marked_refutes P inputs Q (Ok v) old new c d i =
    let h = d.0 refl in
    let w = checks_right (λ bytes. IsMarkedCheck bytes (Ok v) inputs Q) old new v c in
    refutation_sound [] Q w.0 w.1.0 v h.0 w.1.2 (subst IsSatisfiable (sym w.1.1) (given_satisfied P inputs h.1 i))
marked_refutes P inputs Q (Err x) old new c d i = absurd (let z = d.1 in cc)

pub unsatisfiable_by : (f : ProofFormat) (old new : Sources) → VerifiesBy f old new true → GivesUnsatisfiable old.cnf new.cnf
unsatisfiable_by Drat old new w = verified_unsatisfiable Drat old new true refl w
unsatisfiable_by BinaryDrat old new w = verified_unsatisfiable BinaryDrat old new true refl w
unsatisfiable_by Marked old new w = (w.clauses, w.given, marked_refutes w.clauses w.inputs w.left w.result_is old.proof new.proof w.checks w.verdict)

-- the status 0 comes only of the verdict true
only_verified : (v : Bool) (n : ℕ) (text : List ℕ) (before after : Taken) → EndsPrinting (verdict_status v) text n before after → n ≡ 0 → v ≡ true
only_verified v n text before after (inr (e, p, f)) z = absurd (omega (arith, e, z))
only_verified true n text before after (inl p) z = refl
only_verified false n text before after (inl (e, b, f)) z = absurd (omega (arith, e, z))

pub status_is_true : (f : ProofFormat) (old new : Sources) (v : Bool) (n : ℕ) (text : List ℕ) (before after : Taken) →
    EndsPrinting (verdict_status v) text n before after → VerifiesBy f old new v → n ≡ 0 → GivesUnsatisfiable old.cnf new.cnf
status_is_true f old new v n text before after e w z =
    unsatisfiable_by f old new (subst (VerifiesBy f old new) (only_verified v n text before after e z) w)

-- A check that comes to no verdict.

pub fails_reading : (s t p : Input) (start left : CheckerState) (e : CheckerError) → start ≡ record { clauses = []; spent = false } →
    AddsText (record { checker = start; source = s }) (Err e) (record { checker = left; source = t }) →
    FailsCheck (record { cnf = s; proof = p }) (record { cnf = t; proof = p }) e
fails_reading s t p start left e b a =
    AsRead left (subst (λ x. AddsText (record { checker = x; source = s }) (Err e) (record { checker = left; source = t })) b a) refl

no_bytes : {V : Type 0} (is_right : List ℕ → Type 0) (old new : Input) (e : CheckerError) → ((bytes : List ℕ) → is_right bytes → ⊥) →
    ChecksBytes {V = V} is_right old (Err e) new → FailsToRead old e new
no_bytes is_right old new e never (AtEnd text r h q i) = absurd (never text i)
no_bytes is_right old new e never (InText text r q i) = absurd (never (text ++ []) (i []))
no_bytes is_right old new e never (SourceFailed text r q x same is) = let y : e ≡ x = cc in (text, r, inl (ap is_io y ∙ is, q))
no_bytes is_right old new e never (RanOut text r q same) = let y : e ≡ OutOfMemory = cc in (text, r, inr (y, q))

has_verdict : (fault : Option ℕ) (v : PlainVerdict) → (b : Bool) × (verdict_of (result_of fault v) ≡ Some b)
has_verdict None plain.Refutation = (true, refl)
has_verdict None plain.Derivation = (false, refl)
has_verdict (Some offset) plain.Refutation = (false, refl)
has_verdict (Some offset) plain.Derivation = (false, refl)
has_verdict None (plain.DoesNotFollow number) = (false, refl)
has_verdict (Some offset) (plain.DoesNotFollow number) = (false, refl)
has_verdict None (plain.DeletesNothing number) = (false, refl)
has_verdict (Some offset) (plain.DeletesNothing number) = (false, refl)

no_result : (f : ProofFormat) (P : List Clause) (bytes : List ℕ) (e : CheckerError) (Q : List Clause) → verdict_of (Err e) ≡ None →
    IsResult f P bytes (Err e) Q → ⊥
no_result f P bytes e Q n i =
    let (b, logged) = has_verdict i.fault i.verdict in
    let z : Some b ≡ None = sym logged ∙ ap verdict_of (sym i.result_is) ∙ n in
    cc

pub fails_checking : (f : ProofFormat) (s t p q : Input) (start mid new : CheckerState) (r : Result CheckVerdict CheckerError) (e : CheckerError) →
    start ≡ record { clauses = []; spent = false } →
    AddsText (record { checker = start; source = s }) (Ok tt) (record { checker = mid; source = t }) →
    (mid.spent ≡ false → Checks f (record { checker = mid; source = p }) r (record { checker = new; source = q })) →
    r ≡ Err e → verdict_of r ≡ None → FailsCheck (record { cnf = s; proof = p }) (record { cnf = t; proof = q }) e
fails_checking f s t p q start mid new r e b a c same none =
    let w = took s t mid (subst (λ x. AddsText (record { checker = x; source = s }) (Ok tt) (record { checker = mid; source = t })) b a) in
    AsChecked mid.clauses w.given
    (no_bytes (λ bytes. IsResult f mid.clauses bytes (Err e) new.clauses) p q e
    (λ bytes i. no_result f mid.clauses bytes e new.clauses (ap verdict_of (sym same) ∙ none) i)
    (subst (λ x. Checks f (record { checker = mid; source = p }) x (record { checker = new; source = q })) same (c (ap (λ x. x.spent) w.now))))

-- the error in a result
abbrev pub error_in : Result CheckVerdict CheckerError → CheckerError
error_in (Ok v) = Spent
error_in (Err e) = e

-- An error that speaks of the bytes is the verdict that the proof is wrong.
pub wrong_proof : (e : CheckerError) (v : Bool) → verdict_of (Err e) ≡ Some v → (is_of_bytes e ≡ true) × (v ≡ false)
wrong_proof (CheckFailed n) v h = (refl, (let z : Some false ≡ Some v = h in cc))
wrong_proof (NoSuchClause n) v h = (refl, (let z : Some false ≡ Some v = h in cc))
wrong_proof (CoreNotAssumed n) v h = (refl, (let z : Some false ≡ Some v = h in cc))
wrong_proof (Parse o) v h = (refl, (let z : Some false ≡ Some v = h in cc))
wrong_proof (Io x) v h = absurd cc
wrong_proof OutOfMemory v h = absurd cc
wrong_proof (Dimacs x) v h = absurd cc
wrong_proof Spent v h = absurd cc

-- any other is a fault
pub no_verdict : (e : CheckerError) → verdict_of (Err e) ≡ None → is_of_bytes e ≡ false
no_verdict (CheckFailed n) h = absurd cc
no_verdict (NoSuchClause n) h = absurd cc
no_verdict (CoreNotAssumed n) h = absurd cc
no_verdict (Parse o) h = absurd cc
no_verdict (Io x) h = refl
no_verdict OutOfMemory h = refl
no_verdict (Dimacs x) h = refl
no_verdict Spent h = refl

no_marked : (bytes : List ℕ) (e : CheckerError) (inputs Q : List Clause) → is_of_bytes e ≡ false → IsMarkedCheck bytes (Err e) inputs Q → ⊥
no_marked bytes (CheckFailed n) inputs Q f i = let z : true ≡ false = f in cc
no_marked bytes (NoSuchClause n) inputs Q f i = let z : true ≡ false = f in cc
no_marked bytes (CoreNotAssumed n) inputs Q f i = let z : true ≡ false = f in cc
no_marked bytes (Parse o) inputs Q f i = let z : true ≡ false = f in cc
no_marked bytes (Io x) inputs Q f (logged, i) = i.stops
no_marked bytes OutOfMemory inputs Q f (logged, i) = i.stops
no_marked bytes (Dimacs x) inputs Q f (logged, i) = i.stops
no_marked bytes Spent inputs Q f (logged, i) = i.stops

pub fails_marked : (s t p q : Input) (start mid : CheckerState) (e : CheckerError) (Q : List Clause) →
    start ≡ record { clauses = []; spent = false } →
    AddsText (record { checker = start; source = s }) (Ok tt) (record { checker = mid; source = t }) →
    ChecksBytes {V = CheckVerdict} (λ bytes. IsMarkedCheck bytes (Err e) [] Q) p (Err e) q → is_of_bytes e ≡ false →
    FailsCheck (record { cnf = s; proof = p }) (record { cnf = t; proof = q }) e
fails_marked s t p q start mid e Q b a c f =
    let w = took s t mid (subst (λ x. AddsText (record { checker = x; source = s }) (Ok tt) (record { checker = mid; source = t })) b a) in
    AsChecked mid.clauses w.given (no_bytes (λ bytes. IsMarkedCheck bytes (Err e) [] Q) p q e (λ bytes i. no_marked bytes e [] Q f i) c)

-- A check of a DRAT proof.

pub verifies_drat : (f : ProofFormat) (s t p q : Input) (start mid new : CheckerState) (r : Result CheckVerdict CheckerError) (v : Bool) →
    start ≡ record { clauses = []; spent = false } →
    AddsText (record { checker = start; source = s }) (Ok tt) (record { checker = mid; source = t }) →
    (mid.spent ≡ false → ChecksDrat f (record { checker = mid; source = p }) r (record { checker = new; source = q })) →
    verdict_of r ≡ Some v → VerifiesDrat f (record { cnf = s; proof = p }) (record { cnf = t; proof = q }) v
verifies_drat f s t p q start mid new r v e a c d =
    let w = took s t mid (subst (λ x. AddsText (record { checker = x; source = s }) (Ok tt) (record { checker = mid; source = t })) e a) in
    record {
      clauses = mid.clauses;
      given = w.given;
      left = new;
      result_is = r;
      checks = subst (λ x. ChecksDrat f (record { checker = x; source = p }) r (record { checker = new; source = q })) w.now (c (ap (λ x. x.spent) w.now));
      verdict = d;
    }

no_drat : (f : ProofFormat) (P : List Clause) (bytes : List ℕ) (e : CheckerError) (Q : List Clause) → verdict_of (Err e) ≡ None →
    IsDratResult f P bytes (Err e) Q → ⊥
no_drat f P bytes (CheckFailed n) Q z i = cc
no_drat f P bytes (NoSuchClause n) Q z i = cc
no_drat f P bytes (CoreNotAssumed n) Q z i = cc
no_drat f P bytes (Parse o) Q z i = cc
no_drat f P bytes (Io x) Q z i = i.stops
no_drat f P bytes OutOfMemory Q z i = i.stops
no_drat f P bytes (Dimacs x) Q z i = i.stops
no_drat f P bytes Spent Q z i = i.stops

pub fails_drat : (f : ProofFormat) (s t p q : Input) (start mid new : CheckerState) (r : Result CheckVerdict CheckerError) (e : CheckerError) →
    start ≡ record { clauses = []; spent = false } →
    AddsText (record { checker = start; source = s }) (Ok tt) (record { checker = mid; source = t }) →
    (mid.spent ≡ false → ChecksDrat f (record { checker = mid; source = p }) r (record { checker = new; source = q })) →
    r ≡ Err e → verdict_of r ≡ None → FailsCheck (record { cnf = s; proof = p }) (record { cnf = t; proof = q }) e
fails_drat f s t p q start mid new r e b a c same none =
    let w = took s t mid (subst (λ x. AddsText (record { checker = x; source = s }) (Ok tt) (record { checker = mid; source = t })) b a) in
    AsChecked mid.clauses w.given
    (no_bytes (λ bytes. IsDratResult f mid.clauses bytes (Err e) new.clauses) p q e
    (λ bytes i. no_drat f mid.clauses bytes e new.clauses (ap verdict_of (sym same) ∙ none) i)
    (subst (λ x. ChecksDrat f (record { checker = mid; source = p }) x (record { checker = new; source = q })) same (c (ap (λ x. x.spent) w.now))))

pub drat_unsatisfiable : (f : ProofFormat) (old new : Sources) (v : Bool) → VerifiesDrat f old new v → v ≡ true → GivesUnsatisfiable old.cnf new.cnf
drat_unsatisfiable f old new v w e =
    (w.clauses, w.given, drat_checks_sound f w.clauses w.left.clauses w.result_is old.proof new.proof (is_refutation w.result_is (w.verdict ∙ ap Some e)) w.checks)

pub drat_status : (s t : Input) (v : Bool) (n : ℕ) (text : List ℕ) (before after : Taken) → EndsPrinting (verdict_status v) text n before after →
    (v ≡ true → GivesUnsatisfiable s t) → n ≡ 0 → GivesUnsatisfiable s t
drat_status s t v n text before after e h z = h (only_verified v n text before after e z)
