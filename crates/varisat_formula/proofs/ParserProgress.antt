-- What one byte does.
use Rattle.std.proofs.Common.{◌≡◌, ℕ, suc, ◌<◌, List, [], ◌∷◌, ◌++◌, Bool, true, false, ◌==◌, refl, sym, ap, subst, ◌∙◌, append_assoc, length, take, drop, get_or, take-suc, take-append-drop, Option, Some, None, if◌then◌else◌}
use Rattle.std.proofs.lemmas.Bool.{eqb-true}
use Rattle.varisat_formula.specs.declared.dimacs.token.Word.{Word}
use Rattle.varisat_formula.specs.declared.dimacs.header.HeaderPart.{HeaderPart}
use Rattle.varisat_formula.specs.declared.dimacs.header.HeaderPart.TheVariants.{Name}
use Rattle.varisat_formula.specs.declared.dimacs.parser.ParserState.{ParserState}
use Rattle.varisat_formula.specs.declared.dimacs.parser.ParserState.TheVariants.{Start, Comment, Header, Plain}
use Rattle.varisat_formula.specs.declared.dimacs.error.DimacsError.{DimacsError}
use Rattle.varisat_formula.specs.declared.dimacs.error.DimacsErrorKind.{DimacsErrorKind}
use Rattle.varisat_formula.specs.promises.Dimacs.{Item, Reading, nothing, put, is_blank, is_line_feed, tokens, header_items, line_items, token_items, items, next, lines, last_line, read, step, step_by, Ending, GoesOn, BreaksOff, is_whole, close, close_by, gives, failed, header_of}
use Rattle.varisat_formula.specs.inside.Machine.{no_word, after_byte, after_header_byte}
use Rattle.varisat_formula.specs.promises.Rest.{Progress, begin, word_items, plain_rest, line_rest, rest_items, start_place, gives_from, AdvancesBy}
use Rattle.varisat_formula.proofs.TokenBytes.{split_pieces, plain_agrees}
use Rattle.varisat_formula.proofs.HeaderLines.{header_agrees}

pub read-append : (r : Reading) (xs ys : List Item) → read r (xs ++ ys) ≡ read (read r xs) ys
read-append r [] ys = refl
read-append r (x ∷ xs) ys = read-append (step r x) xs ys

pub read_failed : (r : Reading) (e : DimacsError) (xs : List Item) → r.fault ≡ Some e → read r xs ≡ r
read_failed r e [] h = refl
read_failed r e (x ∷ xs) h = ap (λ s. read s xs) (ap (λ f. step_by f r x) h) ∙ read_failed r e xs h

pub close_failed : (ending : Ending) (r : Reading) (e : DimacsError) (n : ℕ) → r.fault ≡ Some e → close ending r n ≡ r
close_failed ending r e n h = ap (λ f. close_by f ending r n) h

-- 1. Lines.
pub start_items : (ended : Bool) (n : ℕ) (ls : List (List ℕ)) → rest_items ended n Start ls ≡ items ended n ls
start_items ended n [] = refl
start_items ended n (l ∷ []) = refl
start_items ended n (l ∷ m ∷ ls) = refl

feed_pieces : (ended : Bool) (n : ℕ) (place : ParserState) (l : List ℕ) (ls : List (List ℕ)) →
    rest_items ended n place ([] ∷ l ∷ ls) ≡ line_rest true n place [] ++ rest_items ended (next n) Start (l ∷ ls)
feed_pieces ended n place l ls = ap (λ xs. line_rest true n place [] ++ xs) (sym (start_items ended (next n) (l ∷ ls)))

line_feed_items : (ended : Bool) (n : ℕ) (place : ParserState) (rest : List ℕ) →
    rest_items ended n place (lines (10 ∷ rest)) ≡ line_rest true n place [] ++ rest_items ended (next n) Start (lines rest)
line_feed_items ended n place rest =
    let p = split_pieces is_line_feed rest in
    ap (λ ls. rest_items ended n place ([] ∷ ls)) p.are
    ∙ feed_pieces ended n place p.first p.rest
    ∙ sym (ap (λ ls. line_rest true n place [] ++ rest_items ended (next n) Start ls) p.are)

line_feed_last : (n : ℕ) (rest : List ℕ) → last_line n (lines (10 ∷ rest)) ≡ last_line (next n) (lines rest)
line_feed_last n rest =
    let p = split_pieces is_line_feed rest in
    ap (λ ls. last_line n ([] ∷ ls)) p.are ∙ sym (ap (λ ls. last_line (next n) ls) p.are)

-- another byte: the front of the line's items comes from it
abbrev pub LineStep : ℕ → ParserState → ℕ → List Item → ParserState → Type 0
LineStep n place b front place' = (ended : Bool) (line : List ℕ) → line_rest ended n place (b ∷ line) ≡ front ++ line_rest ended n place' line

step_pieces : (ended : Bool) (n : ℕ) (place : ParserState) (b : ℕ) (front : List Item) (place' : ParserState) →
    LineStep n place b front place' → (l : List ℕ) (ls : List (List ℕ)) →
    rest_items ended n place ((b ∷ l) ∷ ls) ≡ front ++ rest_items ended n place' (l ∷ ls)
step_pieces ended n place b front place' s l [] = s ended l
step_pieces ended n place b front place' s l (m ∷ ls) =
    ap (λ xs. xs ++ items ended (next n) (m ∷ ls)) (s true l) ∙ append_assoc front (line_rest true n place' l) (items ended (next n) (m ∷ ls))

step_items : (ended : Bool) (n : ℕ) (place : ParserState) (b : ℕ) (front : List Item) (place' : ParserState) →
    LineStep n place b front place' → is_line_feed b ≡ false → (rest : List ℕ) →
    rest_items ended n place (lines (b ∷ rest)) ≡ front ++ rest_items ended n place' (lines rest)
step_items ended n place b front place' s h rest =
    let p = split_pieces is_line_feed rest in
    ap (λ t. rest_items ended n place (put t b (lines rest))) h
    ∙ ap (λ ls. rest_items ended n place (put false b ls)) p.are
    ∙ step_pieces ended n place b front place' s p.first p.rest
    ∙ sym (ap (λ ls. front ++ rest_items ended n place' ls) p.are)

last_pieces : (n b : ℕ) (l : List ℕ) (ls : List (List ℕ)) → last_line n ((b ∷ l) ∷ ls) ≡ last_line n (l ∷ ls)
last_pieces n b l [] = refl
last_pieces n b l (m ∷ ls) = refl

step_last : (n b : ℕ) → is_line_feed b ≡ false → (rest : List ℕ) → last_line n (lines (b ∷ rest)) ≡ last_line n (lines rest)
step_last n b h rest =
    let p = split_pieces is_line_feed rest in
    ap (λ t. last_line n (put t b (lines rest))) h ∙ ap (λ ls. last_line n (put false b ls)) p.are ∙ last_pieces n b p.first p.rest
    ∙ sym (ap (λ ls. last_line n ls) p.are)

-- 2. The places.
pub plain_blank : (n : ℕ) (w : Word) (b : ℕ) → is_blank b ≡ true → LineStep n (Plain w) b (word_items n w) (Plain no_word)
plain_blank n w b h ended line = ap (λ t. if t then word_items n w ++ plain_rest ended n no_word line else plain_rest ended n (after_byte w b) line) h

pub plain_more : (n : ℕ) (w : Word) (b : ℕ) → is_blank b ≡ false → LineStep n (Plain w) b [] (Plain (after_byte w b))
plain_more n w b h ended line = ap (λ t. if t then word_items n w ++ plain_rest ended n no_word line else plain_rest ended n (after_byte w b) line) h

pub header_more : (n : ℕ) (h : HeaderPart) (b : ℕ) → LineStep n (Header h) b [] (Header (after_header_byte h b))
header_more n h b ended line = refl

plain_start : (n b : ℕ) (ended : Bool) (line : List ℕ) → plain_rest ended n no_word (b ∷ line) ≡ line_rest ended n
    (if is_blank b then Plain no_word else Plain (after_byte no_word b)) line
plain_start n b ended line = go (is_blank b)
  where
    go : (t : Bool) → (if t then [] ++ plain_rest ended n no_word line else plain_rest ended n (after_byte no_word b) line) ≡ line_rest ended n
        (if t then Plain no_word else Plain (after_byte no_word b)) line
    go true = refl
    go false = refl

header_start : (n b : ℕ) (ended : Bool) (line : List ℕ) → b ≡ 112 →
    header_items ended n (header_of (tokens true (b ∷ line))) ≡ line_rest ended n (Header Name) line
header_start n b ended line e = ap (λ x. header_items ended n (header_of (tokens true (x ∷ line)))) e ∙ ap (λ h. header_items ended n h) (header_agrees line)

pub start_more : (n b : ℕ) → LineStep n Start b [] (start_place b)
start_more n b ended line = by_first (b == 99) refl
  where
    plain : List Item
    plain = token_items n (tokens ended (b ∷ line))

    heading : List Item
    heading = header_items ended n (header_of (tokens true (b ∷ line)))

    rest_place : ParserState
    rest_place = if is_blank b then Plain no_word else Plain (after_byte no_word b)

    by_second : (t : Bool) → (b == 112) ≡ t → (if t then heading else plain) ≡ line_rest ended n (if t then Header Name else rest_place) line
    by_second true e = header_start n b ended line (eqb-true b 112 e)
    by_second false e = plain_agrees ended n (b ∷ line) ∙ plain_start n b ended line

    by_first : (t : Bool) → (b == 99) ≡ t → line_items ended n (b ∷ line) ≡ line_rest ended n (start_place b) line
    by_first true e =
        ap (λ t. if t then [] else (if b == 112 then heading else plain)) e
        ∙ sym (ap (λ t. line_rest ended n (if t then Comment else (if b == 112 then Header Name else rest_place)) line) e)
    by_first false e =
        ap (λ t. if t then [] else (if b == 112 then heading else plain)) e
        ∙ by_second (b == 112) refl
        ∙ sym (ap (λ t. line_rest ended n (if t then Comment else (if b == 112 then Header Name else rest_place)) line) e)

-- 3. Reading on.
pub open_gives : (ending : Ending) (p : Progress) (rest : List ℕ) → p.over ≡ false →
    gives_from ending p rest ≡ close ending (read p.reading (rest_items (is_whole ending) p.line p.place (lines rest))) (last_line p.line (lines rest))
open_gives ending p rest e =
    ap (λ t. if t then p.reading else close ending (read p.reading (rest_items (is_whole ending) p.line p.place (lines rest)))
    (last_line p.line (lines rest))) e

pub over_gives : (ending : Ending) (p : Progress) (rest : List ℕ) → p.over ≡ true → gives_from ending p rest ≡ p.reading
over_gives ending p rest e =
    ap (λ t. if t then p.reading else close ending (read p.reading (rest_items (is_whole ending) p.line p.place (lines rest)))
    (last_line p.line (lines rest))) e

pub advances_none : (p : Progress) → AdvancesBy p [] p
advances_none p = record { same = λ ending rest. refl }

pub advances_more : (p q s : Progress) (a b : List ℕ) → AdvancesBy p a q → AdvancesBy q b s → AdvancesBy p (a ++ b) s
advances_more p q s a b f g = record {
  same = λ ending rest. g.same ending rest ∙ f.same ending (b ++ rest)
      ∙ ap (λ t. gives_from ending p t) (sym (append_assoc a b rest));
}

pub gives_failed : (ending : Ending) (p : Progress) (e : DimacsError) → p.reading.fault ≡ Some e → (text : List ℕ) → gives_from ending p text ≡ p.reading
gives_failed ending p e h text = by_over p.over refl
  where
    by_over : (t : Bool) → p.over ≡ t → gives_from ending p text ≡ p.reading
    by_over true f = over_gives ending p text f
    by_over false f =
        open_gives ending p text f
        ∙ ap (λ r. close ending r (last_line p.line (lines text))) (read_failed p.reading e (rest_items (is_whole ending) p.line p.place (lines text)) h)
        ∙ close_failed ending p.reading e (last_line p.line (lines text)) h

pub advances_failed : (p : Progress) (e : DimacsError) (text : List ℕ) → p.reading.fault ≡ Some e → AdvancesBy p text p
advances_failed p e text h = record { same = λ ending rest. gives_failed ending p e h rest ∙ sym (gives_failed ending p e h (text ++ rest)) }

-- where the reader stands, in parts
abbrev pub standing : ℕ → ParserState → Reading → Progress
standing n place r = record { line = n; place = place; over = false; reading = r }

pub advances_byte : (n : ℕ) (place : ParserState) (r : Reading) (b : ℕ) (front : List Item) (place' : ParserState) →
    LineStep n place b front place' → is_line_feed b ≡ false → AdvancesBy (standing n place r) (b ∷ []) (standing n place' (read r front))
advances_byte n place r b front place' s h = record {
  same = λ ending rest.
      ap (λ x. close ending x (last_line n (lines rest)))
      (sym (read-append r front (rest_items (is_whole ending) n place' (lines rest)))
      ∙ sym (ap (λ xs. read r xs) (step_items (is_whole ending) n place b front place' s h rest)))
      ∙ ap (λ m. close ending (read r (rest_items (is_whole ending) n place (lines (b ∷ rest)))) m) (sym (step_last n b h rest));
}

pub advances_line_feed : (n : ℕ) (place : ParserState) (r : Reading) →
    AdvancesBy (standing n place r) (10 ∷ []) (standing (next n) Start (read r (line_rest true n place [])))
advances_line_feed n place r = record {
  same = λ ending rest.
      ap (λ x. close ending x (last_line (next n) (lines rest)))
      (sym (read-append r (line_rest true n place []) (rest_items (is_whole ending) (next n) Start (lines rest)))
      ∙ sym (ap (λ xs. read r xs) (line_feed_items (is_whole ending) n place rest)))
      ∙ ap (λ m. close ending (read r (rest_items (is_whole ending) n place (lines (10 ∷ rest)))) m) (sym (line_feed_last n rest));
}

pub begin_gives : (ending : Ending) (text : List ℕ) → gives_from ending begin text ≡ gives ending text
begin_gives ending text = ap (λ xs. close ending (read nothing xs) (last_line 1 (lines text))) (start_items (is_whole ending) 1 (lines text))

-- what was read is what was known before the text broke off
place_now : (n : ℕ) (place : ParserState) → line_rest false n place [] ≡ []
place_now n Start = refl
place_now n Comment = refl
place_now n (Header h) = refl
place_now n (Plain w) = refl

pub breaks_off : (kind : DimacsErrorKind) (p : Progress) → p.over ≡ false → p.reading.fault ≡ None →
    gives_from (BreaksOff kind) p [] ≡ failed p.reading p.line kind
breaks_off kind p e h =
    open_gives (BreaksOff kind) p [] e
    ∙ ap (λ xs. close (BreaksOff kind) (read p.reading xs) p.line) (place_now p.line p.place)
    ∙ ap (λ f. close_by f (BreaksOff kind) p.reading p.line) h

pub goes_on : (p : Progress) → gives_from GoesOn p [] ≡ p.reading
goes_on p = by_over p.over refl
  where
    by_fault : (f : Option DimacsError) → close_by f GoesOn p.reading p.line ≡ p.reading
    by_fault None = refl
    by_fault (Some e) = refl

    by_over : (t : Bool) → p.over ≡ t → gives_from GoesOn p [] ≡ p.reading
    by_over true f = over_gives GoesOn p [] f
    by_over false f = open_gives GoesOn p [] f ∙ ap (λ xs. close GoesOn (read p.reading xs) p.line) (place_now p.line p.place) ∙ by_fault p.reading.fault

-- 4. The same, for what the code has.
pub reads_byte : (s p q : Progress) (b : ℕ) (front : List Item) (place place' : ParserState) → p ≡ s → s.over ≡ false → p.place ≡ place →
    q ≡ record p { place = place'; reading = read p.reading front } →
    LineStep p.line place b front place' → is_line_feed b ≡ false → AdvancesBy s (b ∷ []) q
reads_byte s p q b front place place' v e f k step h =
    let o : p.over ≡ false = ap (λ x. x.over) v ∙ e in
    let p_is : p ≡ standing p.line place p.reading = ap (λ x. record p { over = x }) o ∙ ap (λ x. standing p.line x p.reading) f in
    let q_is : q ≡ standing p.line place' (read p.reading front) = k
    ∙ ap (λ x. record { line = p.line; place = place'; over = x; reading = read p.reading front }) o in
    subst (λ x. AdvancesBy x (b ∷ []) q) (sym p_is ∙ v)
    (subst (λ x. AdvancesBy (standing p.line place p.reading) (b ∷ []) x) (sym q_is) (advances_byte p.line place p.reading b front place' step h))

pub reads_line_feed : (s q : Progress) (b : ℕ) → s.over ≡ false → b ≡ 10 →
    q ≡ record s { line = next s.line; place = Start; reading = read s.reading (line_rest true s.line s.place []) } → AdvancesBy s (b ∷ []) q
reads_line_feed s q b e f k =
    let s_is : s ≡ standing s.line s.place s.reading = ap (λ x. record s { over = x }) e in
    let q_is : q ≡ standing (next s.line) Start (read s.reading (line_rest true s.line s.place [])) =
    k ∙ ap (λ x. record { line = next s.line; place = Start; over = x; reading = read s.reading (line_rest true s.line s.place []) }) e in
    subst (λ x. AdvancesBy x (b ∷ []) q) (sym s_is) (subst (λ x. AdvancesBy (standing s.line s.place s.reading) (b ∷ []) x) (sym q_is)
    (subst (λ c. AdvancesBy (standing s.line s.place s.reading) (c ∷ [])
    (standing (next s.line) Start (read s.reading (line_rest true s.line s.place [])))) (sym f) (advances_line_feed s.line s.place s.reading)))

-- a piece, of which a byte was the last that was read
pub stopped : (p s q : Progress) (piece : List ℕ) (i : ℕ) (e : DimacsError) → i < length piece →
    AdvancesBy p (take i piece) s → AdvancesBy s (get_or piece i 0 ∷ []) q → q.reading.fault ≡ Some e → AdvancesBy p piece q
stopped p s q piece i e l f g h =
    subst (λ t. AdvancesBy p t q)
    (ap (λ t. t ++ drop (suc i) piece) (sym (take-suc piece i 0 l)) ∙ take-append-drop (suc i) piece)
    (advances_more p q q (take i piece ++ get_or piece i 0 ∷ []) (drop (suc i) piece)
    (advances_more p s q (take i piece) (get_or piece i 0 ∷ []) f g) (advances_failed q e (drop (suc i) piece) h))
