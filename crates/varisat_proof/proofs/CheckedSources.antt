-- A check of all that a source gives.
use Rattle.std.proofs.Common.{◌≡◌, ℕ, suc, ◌+◌, ◌<◌, ◌≤◌, List, [], ◌∷◌, ◌++◌, length, Bool, true, false, IsTrue, ◌↔◌, nat_lt, if◌then◌else◌, refl, sym, ap, subst, ◌∙◌, append-nil, Option, Some, None, Result, Ok, Err, arith, rules}
use Rattle.std.specs.Io.KnownBytes.{Consumes, Keeps, IsAtEnd}
use Rattle.varisat_theory.specs.promises.Propagation.{Conflicts}
use Rattle.varisat_formula.specs.promises.Streams as streams
use Rattle.varisat_formula.specs.promises.Streams.{Input, HasEnded}
use Rattle.varisat_formula.proofs.ParsedSources.{reads_none, reads_more, consumes_none}
use Rattle.varisat_lines.specs.declared.format.Encoding.{Encoding}
use Rattle.varisat_proof.specs.declared.checker.error.CheckVerdict.{CheckVerdict}
use Rattle.varisat_proof.specs.declared.checker.error.CheckerError.{CheckerError}
use Rattle.varisat_proof.specs.declared.checker.error.CheckerError.TheVariants.{CheckFailed, NoSuchClause, CoreNotAssumed, Parse, Io, OutOfMemory, Dimacs, Spent}
use Rattle.varisat_proof.specs.declared.checker.check.Count.{Count}
use Rattle.varisat_lines.specs.promises.Lines.{ProofLine}
use Rattle.varisat_lines.specs.inside.Machine.{ReaderState, begin}
use Rattle.varisat_proof.specs.promises.Marked.{ProofState, Rules, IsCheckBy}
use Rattle.varisat_proof.specs.inside.Checks.{StopsBehind, IsAfterLines, HasRead, CheckBreaksOff, EndsWith}
use Rattle.varisat_proof.specs.promises.Calls.{ChecksBytes, AtEnd, InText, SourceFailed, RanOut, IsOfBytes, is_of_bytes, is_io}
use Rattle.varisat_proof.proofs.CheckedLines.{SoFar, reads_start}

-- a source gave a piece more
pub record Gave (s : Input) (piece : List ℕ) (t : Input) : Type 0 where
  pub reads : streams.Reads s piece t
  pub quiet : t.faults ≡ s.faults

-- the source failed and gave nothing
pub gave_nothing : (s t : Input) → t.given ≡ s.given → Keeps s.left t.left → t.pieces ≤ s.pieces → streams.Reads s [] t
gave_nothing s t g k n = record { gave = g ∙ sym (append-nil s.given); consumed = consumes_none s.left t.left k; no_more = n }

-- no byte for a buffer that has room is the end
pub ended_here : (before : Bool) (n : ℕ) (buffer : List ℕ) → n ≡ 0 → 0 < length buffer → streams.ended_after {E = Unit {0}} before (Ok n) buffer ≡ true
ended_here before n [] e h = absurd (omega arith)
ended_here before n (b ∷ bs) e h =
    let some : nat_lt 0 (suc (length bs)) ≡ true = search (rules, h) in
    ap (λ (m : ℕ). streams.ended_after {E = Unit {0}} before (Ok m) (b ∷ bs)) e ∙ ap (λ t. if t then true else before) some

-- what is right for the one result is right for the other
pub checks_ok : {V W : Type 0} (is_right is : List ℕ → Type 0) (old new : Input) (v : V) (w : W) → ((bytes : List ℕ) → is_right bytes → is bytes) →
    ChecksBytes is_right old (Ok v) new → ChecksBytes is old (Ok w) new
checks_ok is_right is old new v w h (AtEnd text a b c k) = AtEnd text a b c (h text k)
checks_ok is_right is old new v w h (InText text a b k) = InText text a b (λ rest. h (text ++ rest) (k rest))
checks_ok is_right is old new v w h (SourceFailed text a b e g i) = absurd cc
checks_ok is_right is old new v w h (RanOut text a b g) = absurd cc

pub checks_err : {V W : Type 0} (is_right is : List ℕ → Type 0) (old new : Input) (e : CheckerError) → ((bytes : List ℕ) → is_right bytes → is bytes) →
    ChecksBytes {V = V} is_right old (Err e) new → ChecksBytes {V = W} is old (Err e) new
checks_err is_right is old new e h (AtEnd text a b c k) = AtEnd text a b c (h text k)
checks_err is_right is old new e h (InText text a b k) = InText text a b (λ rest. h (text ++ rest) (k rest))
checks_err is_right is old new e h (SourceFailed text a b x g i) = SourceFailed text a b x (let y : e ≡ x = cc in ap Err y) i
checks_err is_right is old new e h (RanOut text a b g) = RanOut text a b (let y : e ≡ OutOfMemory = cc in ap Err y)

-- over a source whose bytes are known
ended_bytes : (left : Option (List ℕ)) (bytes text : List ℕ) → Consumes (Some bytes) left text → IsAtEnd left → bytes ≡ text
ended_bytes None bytes text c a = absurd c
ended_bytes (Some rest) bytes text c a = c ∙ ap (λ x. text ++ x) a ∙ append-nil text

rest_bytes : (left : Option (List ℕ)) (bytes text : List ℕ) → Consumes (Some bytes) left text → (rest : List ℕ) × (bytes ≡ text ++ rest)
rest_bytes None bytes text c = absurd c
rest_bytes (Some rest) bytes text c = (rest, c)

not_io : (e : CheckerError) → is_io e ≡ true → is_of_bytes e ≡ true → ⊥
not_io (Io x) i o = absurd cc
not_io e i o = absurd cc

pub checks_exact : {V : Type 0} (is_right : List ℕ → Type 0) (old new : Input) (bytes : List ℕ) (r : Result V CheckerError) → old.left ≡ Some bytes →
    IsOfBytes r → ChecksBytes is_right old r new → is_right bytes
checks_exact is_right old new bytes r e i (AtEnd text reads a q k) = subst is_right
    (sym (ended_bytes new.left bytes text (subst (λ l. Consumes l new.left text) e reads.consumed) a.at_end)) k
checks_exact is_right old new bytes r e i (InText text reads q k) =
    let w = rest_bytes new.left bytes text (subst (λ l. Consumes l new.left text) e reads.consumed) in
    subst is_right (sym w.1) (k w.0)
checks_exact is_right old new bytes r e i (SourceFailed text reads q x g io) = absurd (not_io x io (subst (λ x. IsOfBytes x) g i))
checks_exact is_right old new bytes r e i (RanOut text reads q g) = absurd (let h = subst (λ x. IsOfBytes x) g i in cc)

-- what is returned without an error is right for some bytes
pub checks_right : {V : Type 0} (is_right : List ℕ → Type 0) (old new : Input) (v : V) → ChecksBytes is_right old (Ok v) new → (bytes : List ℕ) × is_right bytes
checks_right is_right old new v (AtEnd text a b c k) = (text, k)
checks_right is_right old new v (InText text a b k) = (text ++ [], k [])
checks_right is_right old new v (SourceFailed text a b e g i) = absurd cc
checks_right is_right old new v (RanOut text a b g) = absurd cc

module _ (R : Rules) where
  -- what was read of a source so far
  pub record Underway (f : Encoding) (s t : ProofState) (old now : Input) (count : Count) (p : ReaderState) : Type 0 where
    pub text : List ℕ
    pub reads : streams.Reads old text now
    pub quiet : now.faults ≡ old.faults
    pub so : SoFar R f s text t count p

  starts_by : (b : Bool) (s : ProofState) → IsTrue b ↔ Conflicts s.present [] → StopsBehind R b s [] s 0
  starts_by true s h = record { front = []; back = []; splits = refl; goes = refl; conflict = h.0 refl }
  starts_by false s h = (refl, (λ x. let y = h.1 x in absurd cc), refl)

  pub underway_start : (f : Encoding) (s t : ProofState) (source : Input) (count : Count) (p : ReaderState) → t ≡ s → p ≡ begin f → count.steps ≡ 0 →
      IsTrue count.refuted ↔ Conflicts s.present [] → Underway f s t source source count p
  underway_start f s t source count p e g z h = record {
    text = [];
    reads = reads_none source;
    quiet = refl;
    so = (
      [],
      subst (λ x. HasRead f [] [] x) (sym g) (reads_start R f),
      subst (λ (x : ProofState). StopsBehind R count.refuted s [] x count.steps) (sym e)
          (subst (λ n. StopsBehind R count.refuted s [] s n) (sym z) (starts_by count.refuted s h)),
    );
  }

  -- what a check returns for some bytes
  abbrev pub Right : Encoding → ProofState → ProofState → Result CheckVerdict CheckerError → List ℕ → Type 0
  Right f s t r bytes = IsCheckBy R f s bytes r t

  pub underway_more : (f : Encoding) (s t t' : ProofState) (old mid new : Input) (count count' : Count) (p q : ReaderState) (piece : List ℕ) →
      Underway f s t old mid count p → Gave mid piece new →
      ((f : Encoding) (P : ProofState) (text : List ℕ) (lines : List ProofLine) → HasRead f text lines p → IsAfterLines R P lines t count →
      SoFar R f P (text ++ piece) t' count' q) → Underway f s t' old new count' q
  underway_more f s t t' old mid new count count' p q piece w g h = record {
    text = w.text ++ piece;
    reads = reads_more old mid new w.text piece w.reads g.reads;
    quiet = g.quiet ∙ w.quiet;
    so = h f s w.text w.so.0 w.so.1 w.so.2;
  }

  -- a check that breaks off inside the text
  inside : (f : Encoding) (s t : ProofState) (old new : Input) (text : List ℕ) (e : CheckerError) → streams.Reads old text new → new.faults ≡ old.faults →
      CheckBreaksOff R f s text e t → ChecksBytes {V = CheckVerdict} (Right f s t (Err e)) old (Err e) new
  inside f s t old new text (CheckFailed n) r q b = InText text r q b
  inside f s t old new text (NoSuchClause n) r q b = InText text r q b
  inside f s t old new text (CoreNotAssumed n) r q b = InText text r q b
  inside f s t old new text (Parse o) r q b = InText text r q b
  inside f s t old new text (Io x) r q b = InText text r q b
  inside f s t old new text OutOfMemory r q b = RanOut text r q refl
  inside f s t old new text (Dimacs x) r q b = InText text r q b
  inside f s t old new text Spent r q b = InText text r q b

  pub breaks_inside : (f : Encoding) (s t t' : ProofState) (old mid new : Input) (count : Count) (p : ReaderState) (piece : List ℕ) (e : CheckerError) →
      Underway f s t old mid count p → Gave mid piece new →
      ((f : Encoding) (P : ProofState) (text : List ℕ) (lines : List ProofLine) → HasRead f text lines p → IsAfterLines R P lines t count →
      CheckBreaksOff R f P (text ++ piece) e t') → ChecksBytes {V = CheckVerdict} (Right f s t' (Err e)) old (Err e) new
  breaks_inside f s t t' old mid new count p piece e w g h =
      inside f s t' old new (w.text ++ piece) e (reads_more old mid new w.text piece w.reads g.reads) (g.quiet ∙ w.quiet) (h f s w.text w.so.0 w.so.1 w.so.2)

  pub source_fails : (f : Encoding) (s t : ProofState) (old mid new : Input) (count : Count) (p : ReaderState) (e : CheckerError) →
      Underway f s t old mid count p → streams.Reads mid [] new → new.faults ≡ mid.faults + 1 → is_io e ≡ true →
      ChecksBytes {V = CheckVerdict} (Right f s t (Err e)) old (Err e) new
  source_fails f s t old mid new count p e w r n i =
      SourceFailed (w.text ++ []) (reads_more old mid new w.text [] w.reads r) (n ∙ ap (λ x. x + 1) w.quiet) e refl i

  ends : (f : Encoding) (s t : ProofState) (old new : Input) (text : List ℕ) (r : Result CheckVerdict CheckerError) → streams.Reads old text new →
      new.faults ≡ old.faults → HasEnded new → EndsWith R f s text r t → ChecksBytes {V = CheckVerdict} (Right f s t r) old r new
  ends f s t old new text (Ok v) r q a b = AtEnd text r a q b
  ends f s t old new text (Err (CheckFailed n)) r q a b = AtEnd text r a q b
  ends f s t old new text (Err (NoSuchClause n)) r q a b = AtEnd text r a q b
  ends f s t old new text (Err (CoreNotAssumed n)) r q a b = AtEnd text r a q b
  ends f s t old new text (Err (Parse o)) r q a b = AtEnd text r a q b
  ends f s t old new text (Err (Io x)) r q a b = AtEnd text r a q b
  ends f s t old new text (Err OutOfMemory) r q a b = RanOut text r q refl
  ends f s t old new text (Err (Dimacs x)) r q a b = AtEnd text r a q b
  ends f s t old new text (Err Spent) r q a b = AtEnd text r a q b

  pub ends_check : (f : Encoding) (s t t' : ProofState) (old mid new : Input) (count : Count) (p : ReaderState) (r : Result CheckVerdict CheckerError) →
      Underway f s t old mid count p → Gave mid [] new → HasEnded new →
      ((f : Encoding) (P : ProofState) (text : List ℕ) (lines : List ProofLine) → HasRead f text lines p → IsAfterLines R P lines t count →
      EndsWith R f P text r t') → ChecksBytes {V = CheckVerdict} (Right f s t' r) old r new
  ends_check f s t t' old mid new count p r w g a h =
      let reads = reads_more old mid new w.text [] w.reads g.reads in
      ends f s t' old new w.text r (subst (λ x. streams.Reads old x new) (append-nil w.text) reads) (g.quiet ∙ w.quiet) a (h f s w.text w.so.0 w.so.1 w.so.2)

  pub no_memory : (f : Encoding) (s t : ProofState) (source : Input) →
      ChecksBytes {V = CheckVerdict} (Right f s t (Err OutOfMemory)) source (Err OutOfMemory) source
  no_memory f s t source = RanOut [] (reads_none source) refl refl
