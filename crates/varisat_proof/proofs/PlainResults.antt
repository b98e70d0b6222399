-- A check of lines that add and delete, in the words of derivations.
use Rattle.std.proofs.Common.{◌≡◌, ℕ, suc, List, [], ◌∷◌, ◌++◌, length, true, refl, sym, ap, subst, ◌∙◌, append_assoc, append-nil, ⊎_elim, inl, inr, Option, Some, None, Result, Ok, Err}
use Rattle.varisat_theory.specs.promises.Literals.{Clause, IsSatisfiable}
use Rattle.varisat_theory.specs.promises.Propagation.{Conflicts}
use Rattle.varisat_theory.specs.promises.Derivations.{Line, Add, Delete, Derives, Refutes}
use Rattle.varisat_plain.specs.promises.Checking.{IsVerdict, IsWrong, IsFirstWrong}
use Rattle.varisat_plain.specs.declared.checker.PlainVerdict.{PlainVerdict}
use Rattle.varisat_plain.specs.declared.checker.PlainVerdict.TheVariants as plain
use Rattle.varisat_plain.proofs.Checking.{Checked, checked_start, checked_more, refutation_found, derivation_found, wrong_found}
use Rattle.varisat_theory.proofs.clauses.Lines.{refutes_sound}
use Rattle.varisat_lines.specs.declared.format.ProofFormat.{ProofFormat}
use Rattle.varisat_lines.specs.declared.format.ProofFormat.TheVariants.{Drat, BinaryDrat, Marked}
use Rattle.varisat_lines.specs.declared.format.Encoding.{Encoding}
use Rattle.varisat_lines.specs.declared.format.LineKind.{LineKind}
use Rattle.varisat_lines.specs.declared.format.LineKind.TheVariants.{Adds, Deletes, Accepts, Assumes, Fails}
use Rattle.varisat_proof.specs.declared.checker.line.LineStatus.TheVariants.{Unproved, Absent, Unassumed}
use Rattle.varisat_proof.specs.declared.checker.error.CheckVerdict.{CheckVerdict}
use Rattle.varisat_proof.specs.declared.checker.error.CheckVerdict.TheVariants.{Refutation, Derivation}
use Rattle.varisat_proof.specs.declared.checker.error.CheckerError.{CheckerError}
use Rattle.varisat_proof.specs.declared.checker.error.CheckerError.TheVariants.{CheckFailed, NoSuchClause, CoreNotAssumed, Parse}
use Rattle.varisat_lines.specs.promises.Lines.{ProofLine, line_of_kind, plain_line, plain_lines, plain_encoding, has_kind, HasKinds, step_number}
use Rattle.varisat_lines.specs.promises.Means.{BytesMean}
use Rattle.varisat_proof.specs.promises.Marked.{MarkedLog, ProofState, Takes, Goes, StopsBefore, StopsCheck, IsCheckOf, state_of}
use Rattle.varisat_proof.specs.promises.Results.{result_of, StopsAt, IsResult}

-- 1. Lines.
plain_kind : (format : ProofFormat) (kind : LineKind) (c : Clause) → has_kind (plain_encoding format) kind ≡ true → (l : Line)
    × (line_of_kind kind c ≡ plain_line l)
plain_kind format Adds c h = (Add c, refl)
plain_kind format Deletes c h = (Delete c, refl)
plain_kind Drat Accepts c h = absurd cc
plain_kind Drat Assumes c h = absurd cc
plain_kind Drat Fails c h = absurd cc
plain_kind BinaryDrat Accepts c h = absurd cc
plain_kind BinaryDrat Assumes c h = absurd cc
plain_kind BinaryDrat Fails c h = absurd cc
plain_kind Marked Accepts c h = absurd cc
plain_kind Marked Assumes c h = absurd cc
plain_kind Marked Fails c h = absurd cc

plain_of : (format : ProofFormat) (lines : List ProofLine) → HasKinds (plain_encoding format) lines → (ls : List Line) × (lines ≡ plain_lines ls)
plain_of format [] h = ([], refl)
plain_of format (line ∷ lines) h =
    let one = plain_kind format line.kind line.clause h.0 in
    let all = plain_of format lines h.1 in
    (one.0 ∷ all.0, ap (λ x. x ∷ lines) one.1 ∙ ap (λ x. plain_line one.0 ∷ x) all.1)

means_kinds : (e : Encoding) (bytes : List ℕ) (lines : List ProofLine) (fault : Option ℕ) → BytesMean e bytes lines fault → HasKinds e lines
means_kinds e bytes lines None h = h.0
means_kinds e bytes lines (Some o) (inl w) = w.has_kinds
means_kinds e bytes lines (Some o) (inr w) = w.0.has_kinds

-- a cut of plain lines
record PlainCut (ls : List Line) (front back : List ProofLine) : Type 0 where
  a : List Line
  b : List Line
  splits : ls ≡ a ++ b
  front_is : front ≡ plain_lines a
  back_is : back ≡ plain_lines b

plain_cut : (ls : List Line) (front back : List ProofLine) → plain_lines ls ≡ front ++ back → PlainCut ls front back
plain_cut ls [] back e = record { a = []; b = ls; splits = refl; front_is = refl; back_is = sym e }
plain_cut [] (x ∷ front) back e = absurd cc
plain_cut (l ∷ ls) (x ∷ front) back e =
    let h : plain_line l ≡ x = cc in
    let w = plain_cut ls front back cc in
    record {
      a = l ∷ w.a;
      b = w.b;
      splits = ap (λ y. l ∷ y) w.splits;
      front_is = ap (λ y. y ∷ front) (sym h) ∙
          ap (λ y. plain_line l ∷ y) w.front_is;
      back_is = w.back_is;
    }

length_plain : (ls : List Line) → length (plain_lines ls) ≡ length ls
length_plain [] = refl
length_plain (l ∷ ls) = ap suc (length_plain ls)

none_plain : (ls : List Line) → plain_lines ls ≡ [] → ls ≡ []
none_plain [] e = refl
none_plain (l ∷ ls) e = absurd cc

-- what goes is checked
one_derives : (l : Line) (s r : ProofState) → Takes s (plain_line l) r → Derives s.present (l ∷ []) r.present
one_derives (Add c) s r h = (h.0, sym (ap (λ x. x.present) h.1))
one_derives (Delete c) s r h = (h.0, h.1, sym (ap (λ x. x.present) h.2))

goes_checked : (P : List Clause) (done ls : List Line) (s t : ProofState) → Checked P done s.present → Goes s (plain_lines ls) t →
    Checked P (done ++ ls) t.present
goes_checked P done [] s t k g = subst (λ (x : ProofState). Checked P (done ++ []) x.present) g (subst (λ x. Checked P x s.present) (sym (append-nil done)) k)
goes_checked P done (l ∷ ls) s t k g =
    let more = checked_more P done s.present l g.1.present k g.0 (one_derives l s g.1 g.2) in
    subst (λ x. Checked P x t.present) (append_assoc done (l ∷ []) ls) (goes_checked P (done ++ l ∷ []) ls g.1 t more g.3)

-- 2. Results.
module _ (format : ProofFormat) (P : List Clause) (bytes : List ℕ) (ls : List Line) (fault : Option ℕ)
    (means : BytesMean (plain_encoding format) bytes (plain_lines ls) fault) (a b : List Line) (t : ProofState) (splits : ls ≡ a ++ b)
    (checked : Checked P a t.present) where
  stopped : (v : PlainVerdict) → IsVerdict P ls v → StopsAt v a b t.present → (r : Result CheckVerdict CheckerError) → r ≡ result_of fault v →
      IsResult format P bytes r t.present
  stopped v w h r e = record {
    lines = ls;
    fault = fault;
    verdict = v;
    means = means;
    is_verdict = w;
    leaves = record { front = a; back = b; splits = splits; derives = checked.derives; stops = h };
    result_is = e;
  }

  refuted : Conflicts t.present [] → (r : Result CheckVerdict CheckerError) → r ≡ result_of fault plain.Refutation → IsResult format P bytes r t.present
  refuted k r e = stopped plain.Refutation (refutation_found P a b ls t.present splits checked k) k r e

  derived : b ≡ [] → (Conflicts t.present [] → ⊥) → (r : Result CheckVerdict CheckerError) → r ≡ result_of fault plain.Derivation →
      IsResult format P bytes r t.present
  derived z n r e =
      let whole : ls ≡ a = splits ∙ ap (λ x. a ++ x) z ∙ append-nil a in
      stopped plain.Derivation (derivation_found P ls t.present (subst (λ x. Checked P x t.present) (sym whole) checked) n) z r e

  number_is : (n step : ℕ) → n ≡ length a → step ≡ step_number (suc n) → step ≡ step_number (suc (length a))
  number_is n step e h = h ∙ ap (λ x. step_number (suc x)) e

  -- the line behind those that were taken is the first wrong one
  first_wrong : (line : Line) (lines : List Line) → b ≡ line ∷ lines → (Conflicts t.present [] → ⊥) → IsWrong t.present line →
      IsFirstWrong P ls (suc (length a)) line
  first_wrong line lines z n w = wrong_found P a lines ls t.present line (suc (length a)) (splits ∙ ap (λ x. a ++ x) z) refl checked n w

  failed : (n step : ℕ) → n ≡ length a → (lines : List Line) → b ≡ lines → StopsBefore Unproved n t (plain_lines lines) step →
      IsResult format P bytes (Err (CheckFailed step)) t.present
  failed n step e [] z s = absurd s
  failed n step e (Delete c ∷ lines) z s = absurd s.1
  failed n step e (Add c ∷ lines) z s =
      stopped (plain.DoesNotFollow (suc (length a))) (c, first_wrong (Add c) lines z s.0 s.1) refl (Err (CheckFailed step))
      (ap (λ x. Err (CheckFailed x)) (number_is n step e s.2))

  missing : (n step : ℕ) → n ≡ length a → (lines : List Line) → b ≡ lines → StopsBefore Absent n t (plain_lines lines) step →
      IsResult format P bytes (Err (NoSuchClause step)) t.present
  missing n step e [] z s = absurd s
  missing n step e (Add c ∷ lines) z s = absurd s.1
  missing n step e (Delete c ∷ lines) z s =
      stopped (plain.DeletesNothing (suc (length a))) (c, first_wrong (Delete c) lines z s.0 s.1) refl (Err (NoSuchClause step))
      (ap (λ x. Err (NoSuchClause x)) (number_is n step e s.2))

  no_core : (n step : ℕ) (lines : List Line) → StopsBefore Unassumed n t (plain_lines lines) step → ⊥
  no_core n step [] s = s
  no_core n step (Add c ∷ lines) s = s.1
  no_core n step (Delete c ∷ lines) s = s.1

  by_result : (n : ℕ) → n ≡ length a → (r : Result CheckVerdict CheckerError) → StopsCheck fault n t (plain_lines b) r → IsResult format P bytes r t.present
  by_result n e (Ok Refutation) s = refuted s.1 (Ok Refutation) (sym (ap (λ f. result_of f plain.Refutation) s.0))
  by_result n e (Ok Derivation) s = derived (none_plain b s.1) s.2 (Ok Derivation) (sym (ap (λ f. result_of f plain.Derivation) s.0))
  by_result n e (Err (CheckFailed step)) s = failed n step e b refl s
  by_result n e (Err (NoSuchClause step)) s = missing n step e b refl s
  by_result n e (Err (CoreNotAssumed step)) s = absurd (no_core n step b s)
  by_result n e (Err (Parse o)) s =
      ⊎_elim (λ k. refuted k (Err (Parse o)) (sym (ap (λ f. result_of f plain.Refutation) s.0)))
      (λ k. derived (none_plain b k.0) k.1 (Err (Parse o)) (sym (ap (λ f. result_of f plain.Derivation) s.0))) s.1
  by_result n e (Err error) s = absurd s

pub plain_right : (format : ProofFormat) (P : List Clause) (logged : MarkedLog) (t : ProofState) (bytes : List ℕ) (r : Result CheckVerdict CheckerError) →
    IsCheckOf (plain_encoding format) (state_of P logged) bytes r t → IsResult format P bytes r t.present
plain_right format P logged t bytes r k =
    let s : ProofState = state_of P logged in
    let ls = plain_of format k.lines (means_kinds (plain_encoding format) bytes k.lines k.fault k.means) in
    let w = plain_cut ls.0 k.front k.back (sym ls.1 ∙ k.splits) in
    let checked : Checked P w.a t.present = goes_checked P [] w.a s t (checked_start P P refl) (subst (λ x. Goes s x t) w.front_is k.goes) in
    by_result format P bytes ls.0 k.fault (subst (λ x. BytesMean (plain_encoding format) bytes x k.fault) ls.1 k.means) w.a w.b t w.splits checked
    (length k.front) (ap length w.front_is ∙ length_plain w.a) r
    (subst (λ x. StopsCheck k.fault (length k.front) t x r) w.back_is k.stops)

-- 3. A refutation is one of the clauses at entry.
refuting : (v : PlainVerdict) (fault : Option ℕ) (P : List Clause) (lines : List Line) → Ok Refutation ≡ result_of fault v → IsVerdict P lines v →
    Refutes P lines
refuting plain.Refutation fault P lines e h = h
refuting plain.Derivation None P lines e h = absurd cc
refuting plain.Derivation (Some o) P lines e h = absurd cc
refuting (plain.DoesNotFollow n) None P lines e h = absurd cc
refuting (plain.DoesNotFollow n) (Some o) P lines e h = absurd cc
refuting (plain.DeletesNothing n) None P lines e h = absurd cc
refuting (plain.DeletesNothing n) (Some o) P lines e h = absurd cc

pub result_sound : (f : ProofFormat) (P Q : List Clause) (bytes : List ℕ) (r : Result CheckVerdict CheckerError) → r ≡ Ok Refutation →
    IsResult f P bytes r Q → IsSatisfiable P → ⊥
result_sound f P Q bytes r e k = refutes_sound P k.lines (refuting k.verdict k.fault P k.lines (sym e ∙ k.result_is) k.is_verdict)
