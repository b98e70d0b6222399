-- A check of a proof, a line and a byte at a time.
use Rattle.std.proofs.Common.{◌≡◌, ℕ, suc, ◌+◌, ◌-◌, ◌^◌, ◌<◌, ◌≤◌, min, List, [], ◌∷◌, ◌++◌, length, take, drop, get_or, Bool, true, false, IsTrue, ◌↔◌, ◌==◌, if◌then◌else◌, refl, sym, ap, subst, ◌∙◌, append_assoc, append-nil, inl, inr, Option, Some, None, Result, Ok, Err, take_all, arith}
use Rattle.std.proofs.lemmas.List.{take-append-drop, take_more}
use Rattle.varisat_theory.specs.promises.Literals.{Clause}
use Rattle.varisat_theory.specs.promises.Propagation.{Conflicts}
use Rattle.varisat_theory.specs.promises.Derivations.{TakesOut}
use Rattle.varisat_theory.proofs.clauses.Growth.{conflicts_more, covered_by_more}
use Rattle.varisat_theory.proofs.clauses.Sound.{takes_less}
use Rattle.varisat_plain.proofs.Scans.{answers_false}
use Rattle.varisat_plain.specs.promises.Checking.{IsAbsent}
use Rattle.varisat_lines.specs.declared.format.Encoding.{Encoding}
use Rattle.varisat_lines.specs.declared.format.Encoding.TheVariants.{Text, Binary}
use Rattle.varisat_lines.specs.declared.format.LineKind.{LineKind}
use Rattle.varisat_lines.specs.declared.format.LineKind.TheVariants.{Adds, Deletes, Accepts, Assumes, Fails}
use Rattle.varisat_proof.specs.declared.checker.line.LineStatus.{LineStatus}
use Rattle.varisat_proof.specs.declared.checker.line.LineStatus.TheVariants.{Taken, Unproved, Absent, Unassumed}
use Rattle.varisat_lines.specs.declared.token.Symbol.{Symbol}
use Rattle.varisat_lines.specs.declared.token.Symbol.TheVariants.{Mark, Number, Cut, Bad}
use Rattle.varisat_lines.specs.declared.token.Event.{Event}
use Rattle.varisat_lines.specs.declared.token.Event.TheVariants.{More, Ended, Fault}
use Rattle.varisat_proof.specs.declared.checker.error.CheckVerdict.{CheckVerdict}
use Rattle.varisat_proof.specs.declared.checker.error.CheckVerdict.TheVariants.{Refutation, Derivation}
use Rattle.varisat_proof.specs.declared.checker.error.CheckerError.{CheckerError}
use Rattle.varisat_proof.specs.declared.checker.error.CheckerError.TheVariants.{CheckFailed, NoSuchClause, CoreNotAssumed, Parse, OutOfMemory}
use Rattle.varisat_proof.specs.declared.checker.check.Count.{Count}
use Rattle.varisat_lines.specs.promises.Lines.{ProofLine, line_of_kind, letter_kind, step_number}
use Rattle.varisat_lines.specs.promises.Grammar.{Accepted, Faulty, tag_kind}
use Rattle.varisat_lines.specs.inside.Machine.{ParserState, Parsed, ReaderState, line_at, number_event, begin_event, event, begin_line, after_number, moved, last_symbol, put, at_end, happens, after, parsed, parsed_from, begin, last_event, last_place, last_offset}
use Rattle.varisat_lines.specs.promises.Means.{BytesMean, Means}
use Rattle.varisat_proof.specs.promises.Marked.{MarkedLog, ProofState, Rules, strict_rules, GoesBy, IsCheckBy, state_of}
use Rattle.varisat_proof.specs.declared.checker.line.LineRules.{LineRules}
use Rattle.varisat_proof.specs.declared.checker.line.LineRules.TheVariants.{Strict, Drat}
use Rattle.varisat_proof.specs.promises.DratChecks.{rules_of}
use Rattle.varisat_proof.specs.inside.Checks.{IsRefutedBehind, IsLineStatus, StopsBehind, IsAfterLines, LastIsWrong, IsWrongLast, with_lines, HasRead, CheckBreaksOff, EndsWith, result_at_end}
use Rattle.varisat_lines.proofs.TokenLines.{parsed_means}

-- 1. Lines.
pub absent_status : (s t : ProofState) (kind : LineKind) (c : Clause) → kind ≡ Deletes → IsAbsent s.present c → t ≡ s →
    IsLineStatus strict_rules s (line_of_kind kind c) Absent t
absent_status s t kind c e a h = subst (λ x. IsLineStatus strict_rules s (line_of_kind x c) Absent t) (sym e) (a, h)

-- the error for a line that is not taken
abbrev pub error_of : LineStatus → ℕ → CheckerError
error_of Absent step = NoSuchClause step
error_of Unassumed step = CoreNotAssumed step
error_of status step = CheckFailed step

pub state_is : (P P' : List Clause) (logged logged' : MarkedLog) → P' ≡ P → logged' ≡ logged → (let s : ProofState = state_of P' logged' in s) ≡ state_of P logged
state_is P P' logged logged' e h = ap (λ x. let s : ProofState = state_of x logged' in s) e ∙ ap (λ x. let s : ProofState = state_of P x in s) h

-- nothing conflicts once a clause was taken out
calm_without : (P : List Clause) (c : Clause) (Q : List Clause) → TakesOut P c Q → (Conflicts P [] → ⊥) → (f : Bool) → f ≡ false → IsTrue f ↔ Conflicts Q []
calm_without P c Q t n f e =
    subst (λ x. IsTrue x ↔ Conflicts Q []) (sym e)
    (answers_false _ (λ k. n (conflicts_more Q P [] [] (covered_by_more Q P (takes_less P c Q t)) (λ l m. m) k)))

calm_still : (P Q : List Clause) → Q ≡ P → (Conflicts P [] → ⊥) → (f : Bool) → f ≡ false → IsTrue f ↔ Conflicts Q []
calm_still P Q q n f e =
    subst (λ x. IsTrue x ↔ Conflicts Q []) (sym e) (answers_false _ (λ k. n (subst (λ (x : List Clause). Conflicts x []) q k)))

-- what was said behind a line that was taken is right, by both rules
pub refuted_behind : (mode : LineRules) (t r : ProofState) (kind : LineKind) (c : Clause) (f : Bool) → IsRefutedBehind kind r.present f →
    (Conflicts t.present [] → ⊥) → (rules_of mode).takes t (line_of_kind kind c) r → IsTrue f ↔ Conflicts r.present []
refuted_behind Strict t r Deletes c f e n h =
    subst (λ (x : ProofState). IsTrue f ↔ Conflicts x.present []) (sym h.2) (calm_without t.present c h.0 h.1 n f e)
refuted_behind Drat t r Deletes c f e n (inl h, _) = calm_still t.present r.present h.1 n f e
refuted_behind Drat t r Deletes c f e n (inr h, _) = calm_without t.present c r.present h.0 n f e
refuted_behind mode t r Adds c f e n h = e
refuted_behind mode t r Accepts c f e n h = e
refuted_behind mode t r Assumes c f e n h = e
refuted_behind mode t r Fails c f e n h = e

module _ (R : Rules) where
  pub goes_more : (lines : List ProofLine) (s t : ProofState) (line : ProofLine) (r : ProofState) → GoesBy R s lines t → (Conflicts t.present [] → ⊥) →
      R.takes t line r → GoesBy R s (lines ++ line ∷ []) r
  goes_more [] s t line r g n h = (
    (λ k. n (subst (λ (x : ProofState). Conflicts x.present []) g k)),
    r,
    subst (λ (x : ProofState). R.takes x line r) (sym g)
        h,
    refl,
  )
  goes_more (l ∷ lines) s t line r g n h = (g.0, g.1, g.2, goes_more lines g.1 t line r g.3 n h)

  pub still_refuted : (b : Bool) (s : ProofState) (lines : List ProofLine) (t : ProofState) (n : ℕ) (l : ProofLine) → b ≡ true → StopsBehind R b s lines t n →
      StopsBehind R b s (lines ++ l ∷ []) t n
  still_refuted true s lines t n l e h = record {
    front = h.front;
    back = h.back ++ l ∷ [];
    splits = ap (λ x. x ++ l ∷ []) h.splits ∙
        append_assoc h.front h.back (l ∷ []);
    goes = h.goes;
    conflict = h.conflict;
  }
  still_refuted false s lines t n l e h = absurd cc

  going : (b : Bool) (s : ProofState) (lines : List ProofLine) (t : ProofState) (n : ℕ) → b ≡ false → StopsBehind R b s lines t n → StopsBehind R false s lines t n
  going true s lines t n e h = absurd cc
  going false s lines t n e h = h

  next_number : (lines n step : ℕ) → n ≡ step_number lines → step ≡ min (n + 1) (2 ^ 64 - 1) → step ≡ step_number (suc lines)
  next_number lines n step e h = omega arith

  longer : (lines : List ProofLine) (line : ProofLine) → length (lines ++ line ∷ []) ≡ suc (length lines)
  longer [] line = refl
  longer (x ∷ lines) line = ap suc (longer lines line)

  module _ (b : Bool) (s : ProofState) (lines : List ProofLine) (t r : ProofState) (n step : ℕ) (line : ProofLine) (is_open : b ≡ false)
      (stands : StopsBehind R b s lines t n) (number : step ≡ min (n + 1) (2 ^ 64 - 1)) where
    now : StopsBehind R false s lines t n
    now = going b s lines t n is_open stands

    last_wrong : (status : LineStatus) → R.wrong t line status → r ≡ t → LastIsWrong R s (lines ++ line ∷ []) status step r
    last_wrong status w e = record {
      front = lines;
      line = line;
      splits = refl;
      goes = subst (λ (x : ProofState). GoesBy R s lines x) (sym e) now.0;
      no_conflict = λ k. now.1 (subst (λ (x : ProofState). Conflicts x.present []) e k);
      wrong = subst (λ (x : ProofState). R.wrong x line status) (sym e) w;
      numbered = next_number (length lines) n step now.2 number;
    }

    wrong_last : (status : LineStatus) → (status ≡ Taken → ⊥) → IsLineStatus R t line status r → IsWrongLast R s (lines ++ line ∷ []) (error_of status step) r
    wrong_last Taken e h = absurd (e refl)
    wrong_last Unproved e h = last_wrong Unproved h.0 h.1
    wrong_last Absent e h = last_wrong Absent h.0 h.1
    wrong_last Unassumed e h = last_wrong Unassumed h.0 h.1

    pub on_wrong : (status : LineStatus) (error : CheckerError) → error ≡ error_of status step → (status ≡ Taken → ⊥) →
        ((Conflicts t.present [] → ⊥) → IsLineStatus R t line status r) →
        IsWrongLast R s (lines ++ line ∷ []) error r
    on_wrong status error e k h = subst (λ x. IsWrongLast R s (lines ++ line ∷ []) x r) (sym e) (wrong_last status k (h now.1))

    taken : (f : Bool) → IsTrue f ↔ Conflicts r.present [] → R.takes t line r → StopsBehind R f s (lines ++ line ∷ []) r step
    taken true h k = record {
      front = lines ++ line ∷ [];
      back = [];
      splits = sym (append-nil (lines ++ line ∷ []));
      goes = goes_more lines s t line r now.0
          now.1 k;
      conflict = h.0 refl;
    }
    taken false h k = (
      goes_more lines s t line r now.0 now.1 k,
      (λ x. let y = h.1 x in absurd cc),
      next_number (length lines) n step now.2 number ∙
          ap step_number (sym (longer lines line)),
    )

    pub on_taken : (status : LineStatus) (f : Bool) → status ≡ Taken → ((Conflicts t.present [] → ⊥) → IsLineStatus R t line status r) →
        ((Conflicts t.present [] → ⊥) → R.takes t line r → IsTrue f ↔ Conflicts r.present []) →
        StopsBehind R f s (lines ++ line ∷ []) r step
    on_taken status f e h k =
        let w = subst (λ x. IsLineStatus R t line x r) e (h now.1) in
        taken f (k now.1 w) w

  -- 2. Results.
  fault_result : (b : Bool) (f : Encoding) (P : ProofState) (bytes : List ℕ) (lines : List ProofLine) (o : ℕ) (Q : ProofState) (n : ℕ) →
      BytesMean f bytes lines (Some o) → StopsBehind R b P lines Q n → IsCheckBy R f P bytes (Err (Parse o)) Q
  fault_result true f P bytes lines o Q n m s = record {
    lines = lines;
    fault = Some o;
    means = m;
    front = s.front;
    back = s.back;
    splits = s.splits;
    goes = s.goes;
    stops = (refl, inl s.conflict);
  }
  fault_result false f P bytes lines o Q n m s = record {
    lines = lines;
    fault = Some o;
    means = m;
    front = lines;
    back = [];
    splits = sym
        (append-nil lines);
    goes = s.0;
    stops = (refl, inr (refl, s.1));
  }

  whole_result : (b : Bool) (f : Encoding) (P : ProofState) (bytes : List ℕ) (lines : List ProofLine) (Q : ProofState) (n : ℕ) →
      BytesMean f bytes lines None → StopsBehind R b P lines Q n → IsCheckBy R f P bytes (Ok (if b then Refutation else Derivation)) Q
  whole_result true f P bytes lines Q n m s = record {
    lines = lines;
    fault = None;
    means = m;
    front = s.front;
    back = s.back;
    splits = s.splits;
    goes = s.goes;
    stops = (refl, s.conflict);
  }
  whole_result false f P bytes lines Q n m s = record {
    lines = lines;
    fault = None;
    means = m;
    front = lines;
    back = [];
    splits = sym (append-nil lines);
    goes = s.0;
    stops = (refl, refl, s.1);
  }

  -- the result of bytes whose first lines end with a wrong one
  wrong_result : (f : Encoding) (P : ProofState) (bytes : List ℕ) (lines more : List ProofLine) (fault : Option ℕ) (e : CheckerError) (Q : ProofState) →
      (e ≡ OutOfMemory → ⊥) → BytesMean f bytes (lines ++ more) fault → IsWrongLast R P lines e Q → IsCheckBy R f P bytes (Err e) Q
  wrong_result f P bytes lines more fault (CheckFailed step) Q n m w = record {
    lines = lines ++ more;
    fault = fault;
    means = m;
    front = w.front;
    back = w.line ∷ more;
    splits = ap (λ x. x ++ more) w.splits ∙
        append_assoc w.front (w.line ∷ []) more;
    goes = w.goes;
    stops = (w.no_conflict, w.wrong, w.numbered);
  }
  wrong_result f P bytes lines more fault (NoSuchClause step) Q n m w = record {
    lines = lines ++ more;
    fault = fault;
    means = m;
    front = w.front;
    back = w.line ∷ more;
    splits = ap (λ x. x ++ more) w.splits ∙
        append_assoc w.front (w.line ∷ []) more;
    goes = w.goes;
    stops = (w.no_conflict, w.wrong, w.numbered);
  }
  wrong_result f P bytes lines more fault (CoreNotAssumed step) Q n m w = record {
    lines = lines ++ more;
    fault = fault;
    means = m;
    front = w.front;
    back = w.line ∷ more;
    splits = ap (λ x. x ++ more) w.splits ∙
        append_assoc w.front (w.line ∷ []) more;
    goes = w.goes;
    stops = (w.no_conflict, w.wrong, w.numbered);
  }
  wrong_result f P bytes lines more fault OutOfMemory Q n m w = absurd (n refl)
  wrong_result f P bytes lines more fault e Q n m w = absurd w

  -- 3. Bytes.
  pub reads_start : (f : Encoding) → HasRead f [] [] (begin f)
  reads_start f = record { rest_is = λ rest. refl }

  step_is : (f : Encoding) (text : List ℕ) (lines : List ProofLine) (p : ReaderState) (b : ℕ) (rest : List ℕ) (e : Event) → HasRead f text lines p →
      happens p b ≡ e →
      parsed f ((text ++ b ∷ []) ++ rest) ≡ with_lines lines (put e (line_at (after p b).place) p.start (parsed_from (after p b) rest))
  step_is f text lines p b rest e r h = ap (λ x. parsed f x) (append_assoc text (b ∷ []) rest) ∙ r.rest_is (b ∷ rest) ∙
      ap (λ x. with_lines lines (put x (line_at (after p b).place) p.start (parsed_from (after p b) rest))) h

  pub reads_more : (f : Encoding) (text : List ℕ) (lines : List ProofLine) (p q : ReaderState) (b : ℕ) → HasRead f text lines p → More ≡ happens p b →
      q ≡ after p b → HasRead f (text ++ b ∷ []) lines q
  reads_more f text lines p q b r h e = record {
    rest_is = λ rest. step_is f text lines p b rest More r (sym h) ∙
        ap (λ x. with_lines lines (parsed_from x rest)) (sym e);
  }

  pub reads_line : (f : Encoding) (text : List ℕ) (lines : List ProofLine) (p q : ReaderState) (b : ℕ) → HasRead f text lines p → Ended ≡ happens p b →
      q ≡ after p b → HasRead f (text ++ b ∷ []) (lines ++ line_at q.place ∷ []) q
  reads_line f text lines p q b r h e = record {
    rest_is = λ rest. step_is f text lines p b rest Ended r (sym h)
        ∙ ap (λ x. with_lines lines (record { lines = line_at x.place ∷ (parsed_from x rest).lines; fault = (parsed_from x rest).fault })) (sym e)
        ∙ ap (λ x. let t : Parsed = record { lines = x; fault = (parsed_from q rest).fault } in t)
        (sym (append_assoc lines (line_at q.place ∷ []) (parsed_from q rest).lines));
  }

  faulty : (f : Encoding) (bytes : List ℕ) (lines : List ProofLine) (o : ℕ) → parsed f bytes ≡ record { lines = lines; fault = Some o } → Faulty f lines bytes o
  faulty f bytes lines o e = subst (λ t. Means f bytes t) e (parsed_means f bytes)

  accepted : (f : Encoding) (bytes : List ℕ) (lines : List ProofLine) → parsed f bytes ≡ record { lines = lines; fault = None } → Accepted f lines bytes
  accepted f bytes lines e = subst (λ t. Means f bytes t) e (parsed_means f bytes)

  pub reads_fault : (f : Encoding) (P : ProofState) (text more : List ℕ) (lines : List ProofLine) (p : ReaderState) (b : ℕ) (Q : ProofState)
      (count : Count) → HasRead f text lines p → Fault ≡ happens p b → IsAfterLines R P lines Q count →
      CheckBreaksOff R f P ((text ++ b ∷ []) ++ more) (Parse p.start) Q
  reads_fault f P text more lines p b Q count r h s = λ rest.
      fault_result count.refuted f P (((text ++ b ∷ []) ++ more) ++ rest) lines p.start Q count.steps
      (faulty f (((text ++ b ∷ []) ++ more) ++ rest) lines p.start
      (ap (λ x. parsed f x) (append_assoc (text ++ b ∷ []) more rest) ∙ step_is f text lines p b (more ++ rest) Fault r (sym h) ∙
      ap (λ x. let t : Parsed = record { lines = x; fault = Some p.start } in t) (append-nil lines))) s

  begins : (f : Encoding) (text more rest : List ℕ) (lines : List ProofLine) (p : ReaderState) → HasRead f text lines p →
      BytesMean f ((text ++ more) ++ rest) (lines ++ (parsed_from p (more ++ rest)).lines) (parsed_from p (more ++ rest)).fault
  begins f text more rest lines p r = subst (λ t. Means f ((text ++ more) ++ rest) t)
      (ap (λ x. parsed f x) (append_assoc text more rest) ∙ r.rest_is (more ++ rest)) (parsed_means f ((text ++ more) ++ rest))

  pub reads_wrong : (f : Encoding) (P : ProofState) (text more : List ℕ) (lines : List ProofLine) (p : ReaderState) (e : CheckerError) (Q : ProofState) →
      HasRead f text lines p → IsWrongLast R P lines e Q → CheckBreaksOff R f P (text ++ more) e Q
  reads_wrong f P text more lines p (CheckFailed step) Q r w = λ rest. wrong_result f P ((text ++ more) ++ rest) lines (parsed_from p (more ++ rest)).lines
      (parsed_from p (more ++ rest)).fault (CheckFailed step) Q (λ e. cc) (begins f text more rest lines p r) w
  reads_wrong f P text more lines p (NoSuchClause step) Q r w = λ rest. wrong_result f P ((text ++ more) ++ rest) lines (parsed_from p (more ++ rest)).lines
      (parsed_from p (more ++ rest)).fault (NoSuchClause step) Q (λ e. cc) (begins f text more rest lines p r) w
  reads_wrong f P text more lines p (CoreNotAssumed step) Q r w = λ rest. wrong_result f P ((text ++ more) ++ rest) lines
      (parsed_from p (more ++ rest)).lines (parsed_from p (more ++ rest)).fault (CoreNotAssumed step) Q (λ e. cc) (begins f text more rest lines p r) w
  reads_wrong f P text more lines p OutOfMemory Q r w = tt
  reads_wrong f P text more lines p e Q r w = absurd w

  -- 4. The end.
  closing_is : (f : Encoding) (text : List ℕ) (lines : List ProofLine) (p : ReaderState) (e : Event) → HasRead f text lines p → last_event p ≡ e →
      parsed f text ≡ with_lines lines (put e (line_at (last_place p)) (last_offset p) (at_end p.at (last_place p)))
  closing_is f text lines p e r h = ap (λ x. parsed f x) (sym (append-nil text)) ∙ r.rest_is [] ∙
      ap (λ x. with_lines lines (put x (line_at (last_place p)) (last_offset p) (at_end p.at (last_place p)))) h

  -- the whole text was read, up to where the reader stands
  pub record ParsedWhole (f : Encoding) (text : List ℕ) (lines : List ProofLine) (p : ReaderState) : Type 0 where
    pub whole : parsed f text ≡ with_lines lines (at_end p.at p.place)

  pub ends_more : (f : Encoding) (text : List ℕ) (lines : List ProofLine) (p q : ReaderState) → HasRead f text lines p → More ≡ last_event p →
      q ≡ record p { place = last_place p } → ParsedWhole f text lines q
  ends_more f text lines p q r h e = record { whole = closing_is f text lines p More r (sym h) ∙ ap (λ x. with_lines lines (at_end x.at x.place)) (sym e) }

  pub ends_line : (f : Encoding) (text : List ℕ) (lines : List ProofLine) (p q : ReaderState) → HasRead f text lines p → Ended ≡ last_event p →
      q ≡ record p { place = last_place p } → ParsedWhole f text (lines ++ line_at q.place ∷ []) q
  ends_line f text lines p q r h e = record {
    whole = closing_is f text lines p Ended r (sym h)
        ∙ ap (λ x. with_lines lines (record { lines = line_at x.place ∷ (at_end x.at x.place).lines; fault = (at_end x.at x.place).fault })) (sym e)
        ∙ ap (λ x. let t : Parsed = record { lines = x; fault = (at_end q.at q.place).fault } in t)
        (sym (append_assoc lines (line_at q.place ∷ []) (at_end q.at q.place).lines));
  }

  pub ends_fault : (f : Encoding) (P : ProofState) (text : List ℕ) (lines : List ProofLine) (p : ReaderState) (Q : ProofState) (count : Count) →
      HasRead f text lines p → Fault ≡ last_event p → IsAfterLines R P lines Q count → EndsWith R f P text (Err (Parse (last_offset p))) Q
  ends_fault f P text lines p Q count r h s =
      fault_result count.refuted f P text lines (last_offset p) Q count.steps
      (faulty f text lines (last_offset p) (closing_is f text lines p Fault r (sym h) ∙
      ap (λ x. let t : Parsed = record { lines = x; fault = Some (last_offset p) } in t) (append-nil lines))) s

  ends_inside : (f : Encoding) (P : ProofState) (text : List ℕ) (lines : List ProofLine) (q : ReaderState) (Q : ProofState) (count : Count) →
      ParsedWhole f text lines q → q.place.inside ≡ true → IsAfterLines R P lines Q count → EndsWith R f P text (Err (Parse q.at)) Q
  ends_inside f P text lines q Q count t h s =
      fault_result count.refuted f P text lines q.at Q count.steps
      (faulty f text lines q.at (t.whole ∙ ap (λ x. let t : Parsed = record { lines = lines ++ []; fault = if x then Some q.at else None } in t) h ∙
      ap (λ x. let t : Parsed = record { lines = x; fault = Some q.at } in t) (append-nil lines))) s

  whole : (f : Encoding) (text : List ℕ) (lines : List ProofLine) (q : ReaderState) → ParsedWhole f text lines q → q.place.inside ≡ false → Accepted f lines text
  whole f text lines q t h = accepted f text lines
      (t.whole ∙ ap (λ x. let t : Parsed = record { lines = lines ++ []; fault = if x then Some q.at else None } in t) h ∙
      ap (λ x. let t : Parsed = record { lines = x; fault = None } in t) (append-nil lines))

  ends_whole : (f : Encoding) (P : ProofState) (text : List ℕ) (lines : List ProofLine) (q : ReaderState) (Q : ProofState) (count : Count) →
      ParsedWhole f text lines q → q.place.inside ≡ false → IsAfterLines R P lines Q count →
      EndsWith R f P text (Ok (if count.refuted then Refutation else Derivation)) Q
  ends_whole f P text lines q Q count t h s = whole_result count.refuted f P text lines Q count.steps (whole f text lines q t h) s

  -- 5. In pieces.
  piece_step : (text piece : List ℕ) (i : ℕ) → i < length piece → (text ++ take i piece) ++ get_or piece i 0 ∷ [] ≡ text ++ take (i + 1) piece
  piece_step text piece i h = append_assoc text (take i piece) (get_or piece i 0 ∷ []) ∙ ap (λ x. text ++ x) (sym (take_more piece i 0 h))

  piece_whole : (text piece : List ℕ) (i : ℕ) → i < length piece → ((text ++ take i piece) ++ get_or piece i 0 ∷ []) ++ drop (i + 1) piece ≡ text ++ piece
  piece_whole text piece i h = ap (λ x. x ++ drop (i + 1) piece) (piece_step text piece i h) ∙ append_assoc text (take (i + 1) piece) (drop (i + 1) piece) ∙
      ap (λ x. text ++ x) (take-append-drop (i + 1) piece)

  -- where a reader and a checker stand behind a text
  abbrev pub SoFar : Encoding → ProofState → List ℕ → ProofState → Count → ReaderState → Type 0
  SoFar f P text Q count p = (lines : List ProofLine) × HasRead f text lines p × IsAfterLines R P lines Q count

  -- the line that ended there
  pub record LineEnds (q : ReaderState) (d : LineKind) (c : Clause) : Type 0 where
    pub kind : d ≡ q.place.kind
    pub clause : c ≡ q.place.clause

  line_ends : (q : ReaderState) (d : LineKind) (c : Clause) → LineEnds q d c → line_of_kind d c ≡ line_at q.place
  line_ends q d c w = ap (λ x. line_of_kind x c) w.kind ∙ ap (λ x. line_of_kind q.place.kind x) w.clause

  pub so_far_start : (f : Encoding) (P : ProofState) (text : List ℕ) (lines : List ProofLine) (Q : ProofState) (count : Count) (p : ReaderState) →
      HasRead f text lines p → IsAfterLines R P lines Q count → SoFar f P (text ++ []) Q count p
  so_far_start f P text lines Q count p r s = (lines, subst (λ x. HasRead f x lines p) (sym (append-nil text)) r, s)

  pub so_far_more : (f : Encoding) (P : ProofState) (text piece : List ℕ) (i : ℕ) (Q Q' : ProofState) (count count' : Count) (p q : ReaderState) →
      i < length piece → SoFar f P (text ++ take i piece) Q count p →
      More ≡ happens p (get_or piece i 0) → q ≡ after p (get_or piece i 0) → Q' ≡ Q → count' ≡ count → SoFar f P (text ++ take (i + 1) piece) Q' count' q
  so_far_more f P text piece i Q Q' count count' p q h s e g a b = (
    s.0,
    subst (λ x. HasRead f x s.0 q) (piece_step text piece i h) (reads_more f (text ++ take i piece) s.0 p q (get_or piece i 0) s.1 e g),
    subst (λ x. IsAfterLines R P s.0 x count') (sym a) (subst (λ x. IsAfterLines R P s.0 Q x) (sym b) s.2),
  )

  pub so_far_line : (f : Encoding) (P : ProofState) (text piece : List ℕ) (i : ℕ) (Q Q' : ProofState) (count count' : Count) (p q : ReaderState)
      (d : LineKind) (c : Clause) → i < length piece → SoFar f P (text ++ take i piece) Q count p →
      Ended ≡ happens p (get_or piece i 0) → q ≡ after p (get_or piece i 0) → LineEnds q d c →
      ((P : ProofState) (lines : List ProofLine) → IsAfterLines R P lines Q count → IsAfterLines R P (lines ++ line_of_kind d c ∷ []) Q' count') →
      SoFar f P (text ++ take (i + 1) piece) Q' count' q
  so_far_line f P text piece i Q Q' count count' p q d c h s e g w t = (
    s.0 ++ line_at q.place ∷ [],
    subst (λ x. HasRead f x (s.0 ++ line_at q.place ∷ []) q) (piece_step text piece i h)
        (reads_line f (text ++ take i piece) s.0 p q (get_or piece i 0) s.1 e g),
    subst (λ x. IsAfterLines R P (s.0 ++ x ∷ []) Q' count')
        (line_ends q d c w) (t P s.0 s.2),
  )

  pub piece_fault : (f : Encoding) (P : ProofState) (text piece : List ℕ) (i : ℕ) (Q : ProofState) (count : Count) (p : ReaderState) (o : ℕ) →
      i < length piece → SoFar f P (text ++ take i piece) Q count p → Fault ≡ happens p (get_or piece i 0) → o ≡ p.start →
      CheckBreaksOff R f P (text ++ piece) (Parse o) Q
  piece_fault f P text piece i Q count p o h s e g =
      subst (λ x. CheckBreaksOff R f P (text ++ piece) (Parse x) Q) (sym g)
      (subst (λ x. CheckBreaksOff R f P x (Parse p.start) Q) (piece_whole text piece i h)
      (reads_fault f P (text ++ take i piece) (drop (i + 1) piece) s.0 p (get_or piece i 0) Q count s.1 e s.2))

  pub piece_wrong : (f : Encoding) (P : ProofState) (text piece : List ℕ) (i : ℕ) (Q Q' : ProofState) (count : Count) (p q : ReaderState) (d : LineKind)
      (c : Clause) (error : CheckerError) → i < length piece → SoFar f P (text ++ take i piece) Q count p →
      Ended ≡ happens p (get_or piece i 0) → q ≡ after p (get_or piece i 0) → LineEnds q d c →
      ((P : ProofState) (lines : List ProofLine) → IsAfterLines R P lines Q count → IsWrongLast R P (lines ++ line_of_kind d c ∷ []) error Q') →
      CheckBreaksOff R f P (text ++ piece) error Q'
  piece_wrong f P text piece i Q Q' count p q d c error h s e g w t =
      subst (λ x. CheckBreaksOff R f P x error Q') (piece_whole text piece i h)
      (reads_wrong f P ((text ++ take i piece) ++ get_or piece i 0 ∷ []) (drop (i + 1) piece) (s.0 ++ line_at q.place ∷ []) q error Q'
      (reads_line f (text ++ take i piece) s.0 p q (get_or piece i 0) s.1 e g)
      (subst (λ x. IsWrongLast R P (s.0 ++ x ∷ []) error Q') (line_ends q d c w) (t P s.0 s.2)))

  pub piece_ends : (f : Encoding) (P : ProofState) (text piece : List ℕ) (i : ℕ) (Q : ProofState) (count : Count) (p : ReaderState) → length piece ≤ i →
      SoFar f P (text ++ take i piece) Q count p → SoFar f P (text ++ piece) Q count p
  piece_ends f P text piece i Q count p h s = subst (λ x. SoFar f P (text ++ x) Q count p) (take_all i piece h) s

  -- 6. Where reader and checker stand at the end.
  abbrev pub EndsAt : Encoding → ProofState → List ℕ → ProofState → Count → ReaderState → Type 0
  EndsAt f P text Q count q = (lines : List ProofLine) × ParsedWhole f text lines q × IsAfterLines R P lines Q count

  pub ends_at_more : (f : Encoding) (P : ProofState) (text : List ℕ) (lines : List ProofLine) (Q Q' : ProofState) (count count' : Count)
      (p q : ReaderState) → HasRead f text lines p → IsAfterLines R P lines Q count →
      More ≡ last_event p → q ≡ record p { place = last_place p } → Q' ≡ Q → count' ≡ count → EndsAt f P text Q' count' q
  ends_at_more f P text lines Q Q' count count' p q r s e g a b = (
    lines,
    ends_more f text lines p q r e g,
    subst (λ x. IsAfterLines R P lines x count')
        (sym a) (subst (λ x. IsAfterLines R P lines Q x) (sym b) s),
  )

  pub ends_at_line : (f : Encoding) (P : ProofState) (text : List ℕ) (lines : List ProofLine) (Q Q' Q'' : ProofState) (count count' count'' : Count)
      (p q : ReaderState) (d : LineKind) (c : Clause) → HasRead f text lines p → IsAfterLines R P lines Q count →
      Ended ≡ last_event p → q ≡ record p { place = last_place p } → LineEnds q d c →
      ((P : ProofState) (lines : List ProofLine) → IsAfterLines R P lines Q count → IsAfterLines R P (lines ++ line_of_kind d c ∷ []) Q' count') →
      Q'' ≡ Q' → count'' ≡ count' → EndsAt f P text Q'' count'' q
  ends_at_line f P text lines Q Q' Q'' count count' count'' p q d c r s e g w t a b =
      let all = lines ++ line_at q.place ∷ [] in (
        all,
        ends_line f text lines p q r e g,
        subst (λ x. IsAfterLines R P all x count'') (sym a)
            (subst (λ x. IsAfterLines R P all Q' x) (sym b) (subst (λ x. IsAfterLines R P (lines ++ x ∷ []) Q' count') (line_ends q d c w) (t P lines s))),
      )

  pub end_wrong : (f : Encoding) (P : ProofState) (text : List ℕ) (lines : List ProofLine) (Q Q' : ProofState) (count : Count) (p q : ReaderState)
      (d : LineKind) (c : Clause) (error : CheckerError) → HasRead f text lines p → IsAfterLines R P lines Q count →
      Ended ≡ last_event p → q ≡ record p { place = last_place p } → LineEnds q d c → q.place.inside ≡ false →
      ((P : ProofState) (lines : List ProofLine) → IsAfterLines R P lines Q count → IsWrongLast R P (lines ++ line_of_kind d c ∷ []) error Q') →
      EndsWith R f P text (Err error) Q'
  end_wrong f P text lines Q Q' count p q d c error r s e g w o t = by_error error
      (subst (λ x. IsWrongLast R P (lines ++ x ∷ []) error Q') (line_ends q d c w) (t P lines s))
    where
      all : List ProofLine
      all = lines ++ line_at q.place ∷ []

      ok : BytesMean f text (all ++ []) None
      ok = subst (λ x. Accepted f x text) (sym (append-nil all)) (whole f text all q (ends_line f text lines p q r e g) o)

      by_error : (error : CheckerError) → IsWrongLast R P all error Q' → EndsWith R f P text (Err error) Q'
      by_error (CheckFailed step) w = wrong_result f P text all [] None (CheckFailed step) Q' (λ e. cc) ok w
      by_error (NoSuchClause step) w = wrong_result f P text all [] None (NoSuchClause step) Q' (λ e. cc) ok w
      by_error (CoreNotAssumed step) w = wrong_result f P text all [] None (CoreNotAssumed step) Q' (λ e. cc) ok w
      by_error OutOfMemory w = tt
      by_error error w = absurd w

  pub ends_at_end : (f : Encoding) (P : ProofState) (text : List ℕ) (Q : ProofState) (count : Count) (q : ReaderState)
      (r : Result CheckVerdict CheckerError) → EndsAt f P text Q count q → r ≡ result_at_end q count → EndsWith R f P text r Q
  ends_at_end f P text Q count q r s e = subst (λ x. EndsWith R f P text x Q) (sym e) (by q.place.inside refl)
    where
      by : (inside : Bool) → q.place.inside ≡ inside → EndsWith R f P text
          (if inside then Err (Parse q.at) else Ok (if count.refuted then Refutation else Derivation)) Q
      by true i = ends_inside f P text s.0 q Q count s.1 i s.2
      by false i = ends_whole f P text s.0 q Q count s.1 i s.2

  -- a line that ended leaves the reader between two lines
  not_ended : (n : ℕ) → (if n == 1 then Fault else More) ≡ Ended → ⊥
  not_ended n e = by (n == 1) e
    where
      by : (t : Bool) → (if t then Fault else More) ≡ Ended → ⊥
      by true e = absurd cc
      by false e = absurd cc

  no_begin : (k : Option LineKind) → begin_event k ≡ Ended → ⊥
  no_begin None e = cc
  no_begin (Some kind) e = cc

  no_mark : (i : Bool) (k : Option LineKind) → (if i then Fault else begin_event k) ≡ Ended → ⊥
  no_mark true k e = cc
  no_mark false k e = no_begin k e

  number_outside : (p : ParserState) (n : ℕ) → number_event n ≡ Ended → (after_number p n).inside ≡ false
  number_outside p n e = by (n == 0) refl e
    where
      by : (t : Bool) → (n == 0) ≡ t → (if t then Ended else (if n == 1 then Fault else More)) ≡ Ended → (after_number p n).inside ≡ false
      by true z e = ap (λ t.
          (if t then (let q : ParserState = record { inside = false; kind = p.kind; clause = p.clause } in
          q) else (if n == 1 then p else (let q : ParserState = record { inside = true; kind = p.kind; clause = p.clause ++ (n - 2) ∷ [] } in q))).inside) z
      by false z e = absurd (not_ended n e)

  symbol_outside : (f : Encoding) (i : Bool) (d : LineKind) (c : Clause) (s : Symbol) → event f i s ≡ Ended →
      (moved f (let p : ParserState = record { inside = i; kind = d; clause = c } in p) s).inside ≡ false
  symbol_outside (Text marked) i d c (Mark b) e = absurd (no_mark i (letter_kind marked b) e)
  symbol_outside (Text marked) i d c (Number n) e = number_outside
      (if i then (let p : ParserState = record { inside = i; kind = d; clause = c } in p) else begin_line Adds) n e
  symbol_outside Binary i d c (Mark b) e = absurd cc
  symbol_outside Binary true d c (Number n) e = number_outside (let p : ParserState = record { inside = true; kind = d; clause = c } in p) n e
  symbol_outside Binary false d c (Number n) e = absurd (no_begin (tag_kind n) e)
  symbol_outside f i d c Cut e = absurd cc
  symbol_outside f i d c Bad e = absurd cc

  pub last_outside : (p q : ReaderState) → Ended ≡ last_event p → q ≡ record p { place = last_place p } → q.place.inside ≡ false
  last_outside p q e g = ap (λ x. x.place.inside) g ∙ by (p.part.count == 0) (sym e)
    where
      s : Symbol
      s = last_symbol p.encoding p.part

      by : (t : Bool) → (if t then More else event p.encoding p.place.inside s) ≡ Ended → (if t then p.place else moved p.encoding p.place s).inside ≡ false
      by true h = absurd cc
      by false h = symbol_outside p.encoding p.place.inside p.place.kind p.place.clause s h

  pub stands_along : (P : ProofState) (lines : List ProofLine) (Q Q' : ProofState) (count count' : Count) → IsAfterLines R P lines Q count → Q' ≡ Q →
      count' ≡ count → IsAfterLines R P lines Q' count'
  stands_along P lines Q Q' count count' s a b = subst (λ x. IsAfterLines R P lines x count') (sym a) (subst (λ x. IsAfterLines R P lines Q x) (sym b) s)
