-- Laws of logging entries to a proof: none, some in turn, and any to a proof that is idle.
use Rattle.std.specs.Prelude.{◌≡◌, ℕ, ◌+◌, ◌||◌, Bool, true, false, List, [], ◌∷◌, ◌++◌, map, flat_map, length, take, Option, Some, None, refl}
use Rattle.std.proofs.Common.{sym, ap, ◌∙◌, append_assoc, append-nil, subst, arith}
use Rattle.std.proofs.Math.Seq.{take-append-add}
use Rattle.std.proofs.lemmas.Grind.{flat_map-append}
use Rattle.varisat_theory.specs.promises.Literals.{Literal, Clause}
use Rattle.varisat_theory.specs.promises.Derivations.{Add, Delete}
use Rattle.varisat_theory.specs.promises.Held.{without}
use Rattle.varisat_theory.specs.promises.Renaming.{rename_line}
use Rattle.varisat_theory.specs.promises.Journals.{Entry, Accepts, Writes, Assumes, Fails, Retires}
use Rattle.varisat_lines.specs.declared.format.ProofFormat.{ProofFormat}
use Rattle.varisat_lines.specs.declared.format.Encoding.{Encoding}
use Rattle.varisat_lines.specs.promises.Lines.{ProofLine, encoding_of}
use Rattle.varisat_lines.specs.promises.Written.{line_written}
use Rattle.varisat_lines.specs.promises.Steps.{lines_written}
use Rattle.varisat_proof.specs.promises.Calls.{CheckerState}
use Rattle.varisat_lines.specs.promises.Logging.{entry_lines, logged_lines, logged_bytes}
use Rattle.varisat_proof.specs.inside.Present.{IsLeftAfter}
use Rattle.varisat_proof.specs.promises.Proving.{OpenState, ProofParts, is_there, IsWrittenIf, IsBegunIf, IsCheckedIf, IsLogged, logged}
use Rattle.varisat_tracer.specs.promises.Carried.{logged_as}

bytes-append : (e : Encoding) (first second : List Entry) →
    lines_written e (logged_lines e (first ++ second)) ≡ lines_written e
    (logged_lines e first) ++ lines_written e (logged_lines e second)
bytes-append e first second =
    ap (λ ls. flat_map (line_written e) ls) (flat_map-append (entry_lines e) first second) ∙
    flat_map-append (line_written e) (logged_lines e first) (logged_lines e second)

pub logged_as-append : (f : Literal → Literal) (first second : List Entry) →
    logged_as f (first ++ second) ≡ logged_as f first ++ logged_as f second
logged_as-append f [] second = refl
logged_as-append f (Accepts c ∷ es) second = ap (λ xs. Accepts (map f c) ∷ xs) (logged_as-append f es second)
logged_as-append f (Writes line ∷ es) second =
    ap (λ xs. Writes (rename_line f line) ∷ xs) (logged_as-append f es second)
logged_as-append f (Assumes a ∷ es) second = ap (λ xs. Assumes (map f a) ∷ xs) (logged_as-append f es second)
logged_as-append f (Fails core ∷ es) second = ap (λ xs. Fails (map f core) ∷ xs) (logged_as-append f es second)
logged_as-append f (Retires v ∷ es) second = logged_as-append f es second

-- 1. None.
written-none : (o : Option OpenState) → IsWrittenIf o (logged []) o
written-none None = refl
written-none (Some p) = record { rest = refl; bytes = sym (append-nil p.taken.bytes); faults = refl }

checked-none : (k : Option CheckerState) → IsCheckedIf k [] k
checked-none None = refl
checked-none (Some c) = (refl, refl)

pub logged-none : (p : ProofParts) → IsLogged p [] p
logged-none p = record { written = written-none p.opened; checked = checked-none p.checker }

-- 2. In turn.
written-more : (o p q : Option OpenState) (first second : List Entry) → IsWrittenIf o (logged first) p →
    IsWrittenIf p (logged second) q →
    IsWrittenIf o (logged (first ++ second)) q
written-more None p q first second h k = subst (λ x. IsWrittenIf x (logged second) q) h k
written-more (Some a) None q first second h k = absurd h
written-more (Some a) (Some b) None first second h k = absurd k
written-more (Some a) (Some b) (Some c) first second h k =
    let same : b.format ≡ a.format = ap (λ (x : OpenState). x.format) h.rest in
    let more : c.taken.bytes
    ≡ b.taken.bytes ++ lines_written (encoding_of a.format) (logged_lines (encoding_of a.format) second) =
    subst
    (λ (f : ProofFormat). c.taken.bytes
    ≡ b.taken.bytes ++ lines_written (encoding_of f) (logged_lines (encoding_of f) second)) same k.bytes in
    record {
      rest = k.rest ∙ ap (λ (x : OpenState). let y : OpenState = record x { taken = c.taken } in y) h.rest;
      bytes =
          more ∙ ap
          (λ xs. xs ++ lines_written (encoding_of a.format) (logged_lines (encoding_of a.format) second)) h.bytes
          ∙ append_assoc a.taken.bytes
          (lines_written (encoding_of a.format) (logged_lines (encoding_of a.format) first))
          (lines_written (encoding_of a.format) (logged_lines (encoding_of a.format) second))
          ∙ ap (λ xs. a.taken.bytes ++ xs) (sym (bytes-append (encoding_of a.format) first second));
      faults = k.faults ∙ h.faults;
    }

pub left_more : (P Q R : List Clause) (first second : List Entry) → IsLeftAfter P first Q → IsLeftAfter Q second R →
    IsLeftAfter P (first ++ second) R
left_more P Q R [] second e h = subst (λ (X : List Clause). IsLeftAfter X second R) (sym e) h
left_more P Q R (Accepts c ∷ first) second e h = left_more (P ++ c ∷ []) Q R first second e h
left_more P Q R (Writes (Add c) ∷ first) second e h = left_more (P ++ c ∷ []) Q R first second e h
left_more P Q R (Writes (Delete c) ∷ first) second (S, t, e) h = (S, t, left_more S Q R first second e h)
left_more P Q R (Assumes a ∷ first) second e h = left_more P Q R first second e h
left_more P Q R (Fails core ∷ first) second e h = left_more P Q R first second e h
left_more P Q R (Retires v ∷ first) second e h = left_more (without v P) Q R first second e h

checked-more : (o p q : Option CheckerState) (first second : List Entry) → IsCheckedIf o first p →
    IsCheckedIf p second q → IsCheckedIf o (first ++ second) q
checked-more None p q first second h k = subst (λ x. IsCheckedIf x second q) h k
checked-more (Some a) None q first second h k = absurd h
checked-more (Some a) (Some b) None first second h k = absurd k
checked-more (Some a) (Some b) (Some c) first second h k =
    (left_more a.clauses b.clauses c.clauses first second h.0 k.0, k.1 ∙ h.1)

pub logged-more : (p q r : ProofParts) (first second : List Entry) → IsLogged p first q → IsLogged q second r →
    IsLogged p (first ++ second) r
logged-more p q r first second h k = record {
  written = written-more p.opened q.opened r.opened first second h.written k.written;
  checked = checked-more p.checker q.checker r.checker first second h.checked k.checked;
}

-- 3. To nothing.
IsNo : Bool → Type 0
IsNo true = ⊥
IsNo false = Unit {0}

idle : (o : Option OpenState) (k : Option CheckerState) (entries : List Entry) → (is_there o || is_there k) ≡ false →
    IsWrittenIf o (logged entries) o
    × IsCheckedIf k entries k
unfolding IsNo
idle None None entries h = (refl, refl)
idle None (Some c) entries h = absurd (subst IsNo (sym h) tt)
idle (Some p) k entries h = absurd (subst IsNo (sym h) tt)

pub logged-idle : (p : ProofParts) (entries : List Entry) → (is_there p.opened || is_there p.checker) ≡ false →
    IsLogged p entries p
logged-idle p entries h = let i = idle p.opened p.checker entries h in record { written = i.0; checked = i.1 }

-- 4. Some of them, up to an error.
pub begun-none : (o : Option OpenState) → IsBegunIf o (logged []) 0 o
begun-none None = (refl, refl)
begun-none (Some p) = record { rest = refl; bytes = (0, sym (append-nil p.taken.bytes)); faults = omega arith }

pub begun-behind : (o p q : Option OpenState) (first second : List Entry) (faults : ℕ) →
    IsWrittenIf o (logged first) p →
    IsBegunIf p (logged second) faults q → IsBegunIf o (logged (first ++ second)) faults q
begun-behind None p q first second faults h k = subst (λ x. IsBegunIf x (logged second) faults q) h k
begun-behind (Some a) None q first second faults h k = absurd h
begun-behind (Some a) (Some b) None first second faults h k = absurd k
begun-behind (Some a) (Some b) (Some c) first second faults h k =
    let same : b.format ≡ a.format = ap (λ (x : OpenState). x.format) h.rest in
    let (n, e) : (n : ℕ) × (c.taken.bytes ≡ b.taken.bytes ++ take n (logged_bytes a.format second)) =
    subst
    (λ (f : ProofFormat). (n : ℕ)
    × (c.taken.bytes ≡ b.taken.bytes ++ take n (logged_bytes f second))) same k.bytes in
    record {
      rest = k.rest ∙ ap (λ (x : OpenState). let y : OpenState = record x { taken = c.taken } in y) h.rest;
      bytes = (
        length (logged_bytes a.format first) + n,
        e ∙ ap (λ xs. xs ++ take n (logged_bytes a.format second)) h.bytes
            ∙ append_assoc a.taken.bytes (logged_bytes a.format first) (take n (logged_bytes a.format second))
            ∙ ap (λ xs. a.taken.bytes ++ xs)
            (sym (take-append-add (logged_bytes a.format first) (logged_bytes a.format second) n)
            ∙ ap (take (length (logged_bytes a.format first) + n))
            (sym (bytes-append (encoding_of a.format) first second))),
      );
      faults = k.faults ∙ ap (λ m. m + faults) h.faults;
    }

pub begun-idle : (o : Option OpenState) (k : Option CheckerState) (p : Option OpenState)
    (lines : Encoding → List ProofLine) (faults : ℕ) →
    (is_there o || is_there k) ≡ false → IsBegunIf o lines faults p → faults ≡ 0
unfolding IsNo
begun-idle None k p lines faults h b = b.1
begun-idle (Some a) k p lines faults h b = absurd (subst IsNo (sym h) tt)
