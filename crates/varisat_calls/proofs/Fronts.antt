-- Texts that break off: a fault of another kind than the break's own is one of each text that begins so.
use Rattle.std.proofs.Common.{◌≡◌, ◌≢◌, ℕ, List, [], ◌∷◌, ◌++◌, Bool, true, false, Option, Some, None, refl, sym, ap, subst, ◌∙◌, append-nil}
use Rattle.std.proofs.lemmas.Bool.{eqb-true}
use Rattle.varisat_formula.specs.declared.dimacs.parser.ParserState.{ParserState}
use Rattle.varisat_formula.specs.declared.dimacs.parser.ParserState.TheVariants.{Start, Comment, Header, Plain}
use Rattle.varisat_formula.specs.declared.dimacs.error.DimacsError.{DimacsError}
use Rattle.varisat_formula.specs.declared.dimacs.error.DimacsErrorKind.{DimacsErrorKind}
use Rattle.varisat_formula.specs.promises.Dimacs.{Reading, nothing, is_blank, is_line_feed, next, read, Ends, BreaksOff, dimacs, broken}
use Rattle.varisat_formula.specs.inside.Machine.{no_word, after_byte, after_header_byte}
use Rattle.varisat_formula.specs.promises.Rest.{Progress, begin, word_items, line_rest, start_place, gives_from, AdvancesBy}
use Rattle.varisat_formula.proofs.ParserProgress.{standing, plain_blank, plain_more, header_more, start_more, advances_none, advances_more, advances_byte, advances_line_feed, gives_failed, begin_gives, breaks_off}

-- a reader that stands at p stands elsewhere once it has read the text
abbrev Reaches : Progress → List ℕ → Type 0
Reaches p text = (n : ℕ) × (place : ParserState) × (r : Reading) × AdvancesBy p text (standing n place r)

-- behind a byte that ends no line
behind-byte : (n : ℕ) (place : ParserState) (r : Reading) (b : ℕ) → is_line_feed b ≡ false → Reaches (standing n place r) (b ∷ [])
behind-byte n Start r b h = (n, start_place b, r, advances_byte n Start r b [] (start_place b) (start_more n b) h)
behind-byte n Comment r b h = (n, Comment, r, advances_byte n Comment r b [] Comment (λ ended line. refl) h)
behind-byte n (Header part) r b h =
    (n, Header (after_header_byte part b), r, advances_byte n (Header part) r b [] (Header (after_header_byte part b)) (header_more n part b) h)
behind-byte n (Plain w) r b h = by_blank (is_blank b) refl
  where
    by_blank : (t : Bool) → is_blank b ≡ t → Reaches (standing n (Plain w) r) (b ∷ [])
    by_blank true e =
        (n, Plain no_word, read r (word_items n w), advances_byte n (Plain w) r b (word_items n w) (Plain no_word) (plain_blank n w b e) h)
    by_blank false e = (n, Plain (after_byte w b), r, advances_byte n (Plain w) r b [] (Plain (after_byte w b)) (plain_more n w b e) h)

-- behind any byte
behind-any : (n : ℕ) (place : ParserState) (r : Reading) (b : ℕ) → Reaches (standing n place r) (b ∷ [])
behind-any n place r b = by_feed (is_line_feed b) refl
  where
    by_feed : (t : Bool) → is_line_feed b ≡ t → Reaches (standing n place r) (b ∷ [])
    by_feed true e = (
      next n,
      Start,
      read r (line_rest true n place []),
      subst (λ c. AdvancesBy (standing n place r) (c ∷ []) (standing (next n) Start (read r (line_rest true n place [])))) (sym (eqb-true b 10 e))
          (advances_line_feed n place r),
    )
    by_feed false e = behind-byte n place r b e

-- behind a text
behind-text : (n : ℕ) (place : ParserState) (r : Reading) (text : List ℕ) → Reaches (standing n place r) text
behind-text n place r [] = (n, place, r, advances_none (standing n place r))
behind-text n place r (b ∷ bs) =
    let (m, at, s, first) = behind-any n place r b in
    let (k, end, t, rest) = behind-text m at s bs in
    (k, end, t, advances_more (standing n place r) (standing m at s) (standing k end t) (b ∷ []) bs first rest)

-- the kind of a fault, if there is one
abbrev kind-in : DimacsErrorKind → Option DimacsError → DimacsErrorKind
kind-in k None = k
kind-in k (Some e) = e.kind

pub fault-of-front : (kind : DimacsErrorKind) (front rest : List ℕ) (cause : DimacsError) → (broken kind front).fault ≡ Some cause →
    cause.kind ≢ kind → (dimacs (front ++ rest)).fault ≡ Some cause
fault-of-front kind front rest cause f other = by_place (behind-text 1 Start nothing front)
  where
    by_fault : (p : Progress) (fault : Option DimacsError) → p.over ≡ false → p.reading.fault ≡ fault → AdvancesBy begin front p →
        (gives_from (BreaksOff kind) p []).fault ≡ Some cause → (dimacs (front ++ rest)).fault ≡ Some cause
    by_fault p None o e reads g =
        absurd (other (ap (kind-in kind) (sym g ∙ ap (λ x. x.fault) (breaks_off kind p o e))))
    by_fault p (Some d) o e reads g =
        ap (λ x. x.fault)
        (sym (begin_gives Ends (front ++ rest)) ∙ sym (reads.same Ends rest) ∙ gives_failed Ends p d e rest ∙ sym (gives_failed (BreaksOff kind) p d e []))
        ∙ g

    by_place : Reaches begin front → (dimacs (front ++ rest)).fault ≡ Some cause
    by_place (n, place, r, reads) =
        by_fault (standing n place r) r.fault refl refl reads
        (ap (λ x. x.fault)
        (reads.same (BreaksOff kind) [] ∙ ap (λ t. gives_from (BreaksOff kind) begin t) (append-nil front) ∙ begin_gives (BreaksOff kind) front)
        ∙ f)
