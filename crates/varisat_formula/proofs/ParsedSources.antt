-- Texts that are read from sources, piece by piece.
use Rattle.std.proofs.Common.{◌≡◌, ℕ, ◌+◌, ◌≤◌, List, [], ◌++◌, ◌⊎◌, inl, inr, Bool, false, Option, Some, None, Result, Ok, Err, take, drop, refl, sym, ap, subst, ◌∙◌, append_assoc, append-nil, take-append-drop, zero, suc, get_or, true, ◌∷◌, arith}
use Rattle.std.specs.Io.KnownBytes.{Consumes, Keeps}
use Rattle.varisat_theory.specs.promises.Literals.{Clause}
use Rattle.varisat_formula.specs.declared.dimacs.error.DimacsError.{DimacsError}
use Rattle.varisat_formula.specs.declared.dimacs.error.DimacsErrorKind.{DimacsErrorKind}
use Rattle.varisat_formula.specs.declared.dimacs.error.DimacsErrorKind.TheVariants.{Io, OutOfMemory}
use Rattle.varisat_formula.specs.promises.Formulas.{Formula}
use Rattle.varisat_formula.specs.promises.Streams.{Input, Reads, HasEnded}
use Rattle.varisat_formula.specs.promises.Dimacs.{Reading, nothing, items, read, lines, last_line, is_blank, Ending, Ends, GoesOn, BreaksOff, close_by, gives, dimacs, so_far, broken}
use Rattle.varisat_formula.specs.promises.Rest.{Progress, begin, gives_from, so_far_from, AdvancesBy, KeepsToken, IsEnding, RunsOutIn, failing, failing_by, with_front}
use Rattle.varisat_formula.specs.promises.Parsed.{EndsInFault, PieceHasFault, PieceWantsRoom, SourceFailed, TakesPiece, EndsToken, GivesReading, Whole, FaultInText, TextFailed, ReaderRanOut}
use Rattle.varisat_formula.specs.promises.TakenTexts.{GivesFirst}
use Rattle.varisat_formula.proofs.ParserMemory.{kept_by}
use Rattle.varisat_formula.proofs.TargetParts.{put_part}
use Rattle.varisat_formula.proofs.ParserProgress.{gives_failed, over_gives, begin_gives, breaks_off}

-- 1. What was read of a source.
pub consumes_none : (a b : Option (List ℕ)) → Keeps a b → Consumes a b []
consumes_none None b k = tt
consumes_none (Some xs) None k = absurd k
consumes_none (Some xs) (Some ys) k = sym k

consumes_self : (a : Option (List ℕ)) → Consumes a a []
consumes_self None = tt
consumes_self (Some xs) = refl

consumes_more : (a b c : Option (List ℕ)) (xs ys : List ℕ) → Consumes a b xs → Consumes b c ys → Consumes a c (xs ++ ys)
consumes_more None b c xs ys f g = tt
consumes_more (Some us) None c xs ys f g = absurd f
consumes_more (Some us) (Some vs) None xs ys f g = absurd g
consumes_more (Some us) (Some vs) (Some ws) xs ys f g = f ∙ ap (λ z. xs ++ z) g ∙ sym (append_assoc xs ys ws)

pub reads_none : (s : Input) → Reads s [] s
reads_none s = record { gave = sym (append-nil s.given); consumed = consumes_self s.left; no_more = omega arith }

pub reads_more : (s t u : Input) (xs ys : List ℕ) → Reads s xs t → Reads t ys u → Reads s (xs ++ ys) u
reads_more s t u xs ys f g =
    let a = f.no_more in
    let b = g.no_more in
    record {
      gave = put_part s.given t.given u.given xs ys f.gave g.gave;
      consumed = consumes_more s.left t.left u.left xs ys f.consumed g.consumed;
      no_more = omega arith;
    }

-- 2. A piece.
-- the source failed
pub source_failed : (s t : Input) (p q : Progress) (e : DimacsError) → t.given ≡ s.given → Keeps s.left t.left → t.pieces ≤ s.pieces →
    t.faults ≡ s.faults + 1 → e ≡ failing p → q.reading ≡ gives_from (BreaksOff Io) p [] → TakesPiece s p (Err e) t q
source_failed s t p q e v k n f h b = record {
  piece = [];
  reads = record { gave = v ∙ sym (append-nil s.given); consumed = consumes_none s.left t.left k; no_more = n };
  good = λ more d. absurd cc;
  goes = λ d. absurd cc;
  ends = λ d. absurd cc;
  bad = λ x d. let y : e ≡ x = cc in (1, SourceFailed b (sym y ∙ h) refl refl, f);
}

-- the text has a fault, or memory ran out in it
pub piece_failed : (s t : Input) (p q : Progress) (piece : List ℕ) (e : DimacsError) → Reads s piece t → t.faults ≡ s.faults → AdvancesBy p piece q
    ⊎ RunsOutIn p piece q → q.reading.fault ≡ Some e → TakesPiece s p (Err e) t q
piece_failed s t p q piece e k f w h = record {
  piece = piece;
  reads = k;
  good = λ more d. absurd cc;
  goes = λ d. absurd cc;
  ends = λ d. absurd cc;
  bad = λ x d. let y : e ≡ x = cc in (0, subst (λ z. EndsInFault p piece q z 0) y (why w), f ∙ plus_none s.faults);
}
  where
    plus_none : (n : ℕ) → n ≡ n + 0
    plus_none n = omega arith

    why : AdvancesBy p piece q ⊎ RunsOutIn p piece q → EndsInFault p piece q e 0
    why (inl a) = PieceHasFault a h refl
    why (inr o) = PieceWantsRoom o h refl

failing_told : (p : Progress) (e : DimacsError) → p.over ≡ false → e ≡ failing p → (gives_from (BreaksOff Io) p []).fault ≡ Some e
failing_told p e o h = by_fault p.reading.fault refl
  where
    by_fault : (f : Option DimacsError) → p.reading.fault ≡ f → (gives_from (BreaksOff Io) p []).fault ≡ Some e
    by_fault None g = ap (λ z. z.fault) (breaks_off Io p o g) ∙ ap Some (sym (h ∙ ap (λ f. failing_by f p.line) g))
    by_fault (Some x) g = ap (λ z. z.fault) (gives_failed (BreaksOff Io) p x g []) ∙ g ∙ ap Some (sym (h ∙ ap (λ f. failing_by f p.line) g))

-- a token ends before a blank
blank_ends : (t : Input) (i : ℕ) (piece : List ℕ) → is_blank (get_or piece i 0) ≡ true → EndsToken (drop i piece) t
blank_ends t zero [] h = absurd cc
blank_ends t (suc i) [] h = absurd cc
blank_ends t zero (b ∷ bs) h = h
blank_ends t (suc i) (b ∷ bs) h = blank_ends t i bs h

-- 3. What was read so far, without a fault, where the clauses `front` were taken of the reader.
pub record ReadSo (s t : Input) (p : Progress) (front : List Clause) : Type 0 where
  pub text : List ℕ
  pub reads : Reads s text t
  pub same : (ending : Ending) (rest : List ℕ) → gives ending (text ++ rest) ≡ with_front front (gives_from ending p rest)
  pub fine : p.reading.fault ≡ None
  pub quiet : t.faults ≡ s.faults

pub read_nothing : (s : Input) (p : Progress) → p ≡ begin → ReadSo s s p []
read_nothing s p e = record {
  text = [];
  reads = reads_none s;
  same = λ ending rest. sym (begin_gives ending rest) ∙ ap (λ x. gives_from ending x rest) (sym e);
  fine = ap (λ x. x.reading.fault) e;
  quiet = refl;
}

piece_same : (s t : Input) (p q : Progress) (front : List Clause) (piece : List ℕ) (w : ReadSo s t p front) → AdvancesBy p piece q →
    (ending : Ending) (rest : List ℕ) →
    gives ending ((w.text ++ piece) ++ rest) ≡ with_front front (gives_from ending q rest)
piece_same s t p q front piece w f ending rest =
    ap (λ x. gives ending x) (append_assoc w.text piece rest) ∙ w.same ending (piece ++ rest) ∙ ap (λ x. with_front front x) (sym (f.same ending rest))

pub read_more : (s t u : Input) (p q : Progress) (front : List Clause) (more : Bool) (r : Result Bool DimacsError) → ReadSo s t p front →
    TakesPiece t p r u q → r ≡ Ok more → ReadSo s u q front
read_more s t u p q front more r w k e =
    let g = k.good more e in
    record {
      text = w.text ++ k.piece;
      reads = reads_more s t u w.text k.piece w.reads k.reads;
      same = piece_same s t p q front k.piece w g.0;
      fine = g.1;
      quiet = g.2 ∙ w.quiet;
    }

-- the clauses that ended are taken
pub read_taken : (s t : Input) (p q : Progress) (front : List Clause) (f : Formula) → ReadSo s t p front →
    q ≡ record p { reading = record p.reading { clauses = [] } } →
    ((ending : Ending) (rest : List ℕ) → gives_from ending p rest ≡ with_front f.clauses (gives_from ending q rest)) → ReadSo s t q (front ++ f.clauses)
read_taken s t p q front f w e l = record {
  text = w.text;
  reads = w.reads;
  same = λ ending rest. w.same ending rest ∙ ap (λ x. with_front front x) (l ending rest) ∙
      ap (λ cs. record (gives_from ending q rest) { clauses = cs }) (sym (append_assoc front f.clauses (gives_from ending q rest).clauses));
  fine = ap (λ x. x.reading.fault) e ∙ w.fine;
  quiet = w.quiet;
}

-- they are the first of the text, whatever comes behind
pub gives_first : (s t : Input) (p : Progress) (front : List Clause) → ReadSo s t p front → GivesFirst s front t
gives_first s t p front w = record {
  text = w.text;
  reads = w.reads;
  quiet = w.quiet;
  first = λ rest. ((gives_from Ends p rest).clauses, ap (λ x. x.clauses) (w.same Ends rest));
}

-- 4. What a text gives.
closed_broken : (f : Option DimacsError) (x : DimacsErrorKind) (r : Reading) (n : ℕ) → r.fault ≡ f →
    (close_by f (BreaksOff x) r n).fault ≡ None → ⊥
closed_broken None x r n h e = cc
closed_broken (Some d) x r n h e = let z : Some d ≡ None = sym h ∙ e in cc

-- a text that breaks off has a fault
broken_fails : (x : DimacsErrorKind) (text : List ℕ) → (broken x text).fault ≡ None → ⊥
broken_fails x text e =
    let r : Reading = read nothing (items false 1 (lines text)) in closed_broken r.fault x r (last_line 1 (lines text)) refl e

-- so the reader of a text without a fault is open still
still_open : (s t : Input) (p : Progress) (front : List Clause) → ReadSo s t p front → p.over ≡ false
still_open s t p front w = by_over p.over refl
  where
    by_over : (o : Bool) → p.over ≡ o → p.over ≡ false
    by_over false e = e
    by_over true e = absurd (broken_fails Io (w.text ++ []) (ap (λ x. x.fault) (w.same (BreaksOff Io) []) ∙
        ap (λ x. x.fault) (over_gives (BreaksOff Io) p [] e) ∙ w.fine))

-- the fault that a piece had is the reader's
pub piece_told : (s t u : Input) (p q : Progress) (front : List Clause) (e : DimacsError) (r : Result Bool DimacsError) → ReadSo s t p front →
    TakesPiece t p r u q → r ≡ Err e → q.reading.fault ≡ Some e
piece_told s t u p q front e r w k h = by_why (k.bad e h).0 (k.bad e h).1
  where
    by_why : (rise : ℕ) → EndsInFault p k.piece q e rise → q.reading.fault ≡ Some e
    by_why rise (PieceHasFault f d n) = d
    by_why rise (PieceWantsRoom f d n) = d
    by_why rise (SourceFailed b d n f) = ap (λ z. z.fault) b ∙ failing_told p e (still_open s t p front w) d

-- a source that gave a text without a fault gave all of it, and did not fail
pub record GivesWhole (s : Input) (reading : Reading) (t : Input) : Type 0 where
  pub text : List ℕ
  pub reads : Reads s text t
  pub ended : HasEnded t
  pub quiet : t.faults ≡ s.faults
  pub is : reading ≡ dimacs text

pub gives_whole : (s t : Input) (reading : Reading) → GivesReading s reading t → reading.fault ≡ None → GivesWhole s reading t
gives_whole s t reading (Whole text r h q e) f = record { text = text; reads = r; ended = h; quiet = q; is = e }
gives_whole s t reading (FaultInText text r q e n) f = absurd (n f)
gives_whole s t reading (TextFailed text r q e) f = absurd (broken_fails Io text (ap (λ x. x.fault) (sym e) ∙ f))
gives_whole s t reading (ReaderRanOut front rest r n q e) f = absurd (broken_fails OutOfMemory front (ap (λ x. x.fault) (sym e) ∙ f))

front_same : (front : List Clause) (r x : Reading) → with_front front x ≡ with_front front r → x ≡ r
front_same [] r x e = e
front_same (c ∷ front) r x e = front_same front r x (ap (λ (y : Reading). record y { clauses = drop 1 y.clauses }) e)

-- a token that the rest wants to keep is one of the text
kept_behind : (text begun : List ℕ) (front : List Clause) (p : Progress) →
    ((ending : Ending) (rest : List ℕ) → gives ending (text ++ rest) ≡ with_front front (gives_from ending p rest)) →
    KeepsToken (so_far_from p begun) (so_far_from p (begun ++ 32 ∷ [])) → KeepsToken (so_far (text ++ begun)) (so_far ((text ++ begun) ++ 32 ∷ []))
kept_behind text begun front p same k =
    kept_by _ _ _ _ (same GoesOn begun) (ap so_far (append_assoc text begun (32 ∷ [])) ∙ same GoesOn (begun ++ 32 ∷ []))
    (record { fine = k.fine; more = λ e. k.more (front_same front _ _ e) })

-- the text or the source has a fault
pub text_broken : (s t u : Input) (p q : Progress) (front : List Clause) (x : DimacsError) (r : Result Bool DimacsError) → ReadSo s t p front →
    TakesPiece t p r u q → r ≡ Err x → GivesReading s (with_front front q.reading) u
text_broken s t u p q front x r w k is = why (k.bad x is).0 (k.bad x is).1 (k.bad x is).2
  where
    all : Reads s (w.text ++ k.piece) u
    all = reads_more s t u w.text k.piece w.reads k.reads

    why : (rise : ℕ) → EndsInFault p k.piece q x rise → u.faults ≡ t.faults + rise → GivesReading s (with_front front q.reading) u
    why rise (PieceHasFault f h m) n =
        FaultInText (w.text ++ k.piece) all (let v = w.quiet in omega (arith, n, m, v))
        (λ rest. piece_same s t p q front k.piece w f Ends rest ∙ ap (λ v. with_front front v) (gives_failed Ends q x h rest))
        (λ e. let v : Some x ≡ None = sym h ∙ e in cc)
    why rise (PieceWantsRoom o h m) n =
        let begun : List ℕ = take o.at k.piece in
        ReaderRanOut (w.text ++ begun) (drop o.at k.piece)
        (subst (λ v. Reads s v u) (sym (append_assoc w.text begun (drop o.at k.piece) ∙ ap (λ v. w.text ++ v) (take-append-drop o.at k.piece))) all)
        (record { ends = blank_ends u o.at k.piece o.blank; wants = kept_behind w.text begun front p w.same o.out.wants })
        (let v = w.quiet in omega (arith, n, m, v))
        (sym (w.same (BreaksOff OutOfMemory) begun ∙ ap (λ v. with_front front v) (sym o.out.reading)))
    why rise (SourceFailed g h e m) n =
        TextFailed (w.text ++ k.piece) all (let v = w.quiet in omega (arith, n, m, v))
        (sym (ap (λ v. broken Io (w.text ++ v)) e ∙ w.same (BreaksOff Io) [] ∙ ap (λ v. with_front front v) (sym g)))

-- the source is at its end, and the text was ended
pub text_ended : (s t : Input) (p q : Progress) (front : List Clause) → ReadSo s t p front → HasEnded t → IsEnding p q →
    GivesReading s (with_front front q.reading) t
text_ended s t p q front w l k = by_end k
  where
    by_end : IsEnding p q → GivesReading s (with_front front q.reading) t
    by_end (inl g) =
        Whole w.text w.reads l w.quiet
        (sym (ap dimacs (sym (append-nil w.text)) ∙ w.same Ends [] ∙ ap (λ v. with_front front v) (sym g)))
    by_end (inr o) =
        ReaderRanOut (w.text ++ []) []
        (subst (λ v. Reads s v t) (sym (append-nil (w.text ++ []) ∙ append-nil w.text)) w.reads)
        (record { ends = l; wants = kept_behind w.text [] front p w.same o.wants })
        w.quiet
        (sym (w.same (BreaksOff OutOfMemory) [] ∙ ap (λ v. with_front front v) (sym o.reading)))

-- the end keeps a fault
ends_failed : (p q : Progress) (e : DimacsError) → p.reading.fault ≡ Some e → IsEnding p q → q.reading ≡ p.reading
ends_failed p q e h (inl g) = g ∙ gives_failed Ends p e h []
ends_failed p q e h (inr o) = o.reading ∙ gives_failed (BreaksOff OutOfMemory) p e h []

-- no piece goes on, and the text was ended
pub text_over : (s t u : Input) (p q o : Progress) (front : List Clause) (r : Result Bool DimacsError) → ReadSo s t p front → TakesPiece t p r u q →
    (r ≡ Ok false) ⊎ ((x : DimacsError) × (r ≡ Err x)) → IsEnding q o → GivesReading s (with_front front o.reading) u
text_over s t u p q o front r w k (inl n) l =
    text_ended s u q o front (read_more s t u p q front false r w k n) (k.ends n).1 l
text_over s t u p q o front r w k (inr (x, n)) l =
    subst (λ v. GivesReading s (with_front front v) u) (sym (ends_failed q o x (piece_told s t u p q front x r w k n) l))
    (text_broken s t u p q front x r w k n)
