-- Lines and words of a text, and what they mean.
use Rattle.std.proofs.Common.{◌≡◌, ℕ, zero, suc, ◌+◌, ◌^◌, ◌<◌, ◌≤◌, Bool, true, false, if◌then◌else◌, nat_lt, List, [], ◌∷◌, ◌++◌, map, length, take, drop, get_or, min, Option, Some, None, Bor, IfNone, IfSome, option_map, Result, Ok, Err, refl, sym, ap, ◌∙◌, arith, rules}
use Rattle.std.specs.List.{slice_split, AllWithin, HoldsAt}
use Rattle.std.proofs.lemmas.List.{get_or-take, take-append-drop, length-take, take_all}
use Rattle.std.proofs.lemmas.List.Splits.{slice_split_none, slice_split_at}
use Rattle.std.proofs.Math.Seq.{drop-cons}
use Rattle.std.proofs.lemmas.Bool.{lt-ltb}
use Rattle.varisat_theory.specs.promises.Literals.{Clause}
use Rattle.varisat_formula.specs.declared.dimacs.token.Meaning.{Meaning}
use Rattle.varisat_formula.specs.promises.Dimacs.{is_blank, is_line_feed, nonempty, number, meaning}
use Rattle.varisat_formula.specs.declared.dimacs.token.Digits.{Digits}
use Rattle.varisat_formula.specs.declared.dimacs.token.Digits.TheVariants.{Empty, Number, Large, NoNumber}
use Rattle.varisat_formula.specs.declared.dimacs.token.Word.{Word}
use Rattle.varisat_formula.specs.inside.Machine.{after_digit, digits_from, says, no_word, after_byte, word_from, word_says}
use Rattle.varisat_formula.proofs.TokenBytes.{number_agrees, meaning_agrees, capped}
use Rattle.varisat_wcnf.specs.declared.wcnf.WcnfFault.{WcnfFault}
use Rattle.varisat_wcnf.specs.declared.wcnf.WcnfError.{WcnfError}
use Rattle.varisat_wcnf.specs.promises.Texts.{WcnfReading, line_words, below_limit, clause_from, after_line, at_line, after_lines}

-- a text is cut at the first picked byte
pub cut_at : (p : ℕ → Bool) (text : List ℕ) (i : ℕ) → i < length text → HoldsAt (λ b. p b ≡ true) text i → AllWithin (λ b. p b ≡ false) text 0 i →
    slice_split p text ≡ take i text ∷ slice_split p (drop (i + 1) text)
cut_at p text i h at before =
    let front : (k d : ℕ) → k < length (take i text) → p (get_or (take i text) k d) ≡ false =
    λ k d l. let k_below : k < i = omega (arith, length-take i text) in rw get_or-take (before k d (omega arith) k_below) in
    let parts : take i text ++ get_or text i 0 ∷ drop (suc i) text ≡ text = ap (λ xs. take i text ++ xs) (sym (drop-cons text i 0 h))
    ∙ take-append-drop i text in
    let up : suc i ≡ i + 1 = omega arith in
    ap (slice_split p) (sym parts) ∙ slice_split_at p (take i text) (get_or text i 0) (drop (suc i) text) front (at 0)
    ∙ ap (λ n. take i text ∷ slice_split p (drop n text)) up

pub uncut : (p : ℕ → Bool) (text : List ℕ) → AllWithin (λ b. p b ≡ false) text 0 (length text) → slice_split p text ≡ text ∷ []
uncut p text h = slice_split_none p text (λ k d l. h k d (omega arith) l)

-- blanks in front make no word
words-front : (b : ℕ) (bs : List ℕ) → is_blank b ≡ true → line_words (b ∷ bs) ≡ line_words bs
words-front b bs e = ap nonempty (slice_split_at is_blank [] b bs (λ k d l. absurd (omega arith)) e)

pub words-blank : (text : List ℕ) (i : ℕ) → i ≤ length text → AllWithin (λ b. is_blank b ≡ true) text 0 i → line_words (drop i text) ≡ line_words text
words-blank [] zero h f = refl
words-blank [] (suc i) h f = absurd (omega arith)
words-blank (b ∷ bs) zero h f = refl
words-blank (b ∷ bs) (suc i) h f =
    words-blank bs i (omega arith) (λ k d l m. f (suc k) d (omega arith) (omega arith)) ∙ sym (words-front b bs (f 0 0 (omega arith) (omega arith)))

pub words-none : (text : List ℕ) → AllWithin (λ b. is_blank b ≡ true) text 0 (length text) → line_words text ≡ []
words-none [] f = refl
words-none (b ∷ bs) f =
    words-front b bs (f 0 0 (omega arith) (omega arith)) ∙ words-none bs (λ k d l m. f (suc k) d (omega arith) (omega arith))

nonempty-front : (f : List ℕ) (ps : List (List ℕ)) → 0 < length f → nonempty (f ∷ ps) ≡ f ∷ nonempty ps
nonempty-front [] ps h = absurd (omega arith)
nonempty-front (b ∷ f) ps h = refl

front-positive : (text : List ℕ) (i : ℕ) → is_blank (get_or text 0 0) ≡ false → is_blank (get_or text i 0) ≡ true → 0 < i
front-positive text zero b a = let f : true ≡ false = sym a ∙ b in absurd cc
front-positive text (suc i) b a = omega arith

pub word-cut : (line text : List ℕ) (i : ℕ) → line_words text ≡ line_words line → is_blank (get_or text 0 0) ≡ false → i < length text →
    HoldsAt (λ b. is_blank b ≡ true) text i → AllWithin (λ b. is_blank b ≡ false) text 0 i → line_words line ≡ take i text ∷ line_words (drop (i + 1) text)
word-cut line text i e b h at before =
    let p = front-positive text i b (at 0) in
    sym e ∙ ap nonempty (cut_at is_blank text i h at before)
    ∙ nonempty-front (take i text) (slice_split is_blank (drop (i + 1) text)) (omega (arith, length-take i text))

pub word-long : (text : List ℕ) (i : ℕ) → is_blank (get_or text 0 0) ≡ false → i < length text → HoldsAt (λ b. is_blank b ≡ true) text i → 0 < length (take i text)
word-long text i b h at = let p = front-positive text i b (at 0) in omega (arith, length-take i text)

words-nothing : (xs : List ℕ) → line_words (take 0 xs) ≡ []
words-nothing [] = refl
words-nothing (x ∷ xs) = refl

pub word-alone : (line text : List ℕ) → line_words text ≡ line_words line → 0 < length text → AllWithin (λ b. is_blank b ≡ false) text 0 (length text) →
    line_words line ≡ text ∷ line_words (take 0 line)
word-alone line text e h f =
    sym e ∙ ap nonempty (uncut is_blank text f) ∙ nonempty-front text [] h ∙ ap (λ ws. text ∷ ws) (sym (words-nothing line))

-- bytes of a word in turn
word-more : (w : Word) (bs : List ℕ) (i : ℕ) → i < length bs → word_from w (take (suc i) bs) ≡ after_byte (word_from w (take i bs)) (get_or bs i 0)
word-more w [] i h = absurd (omega arith)
word-more w (b ∷ bs) zero h = refl
word-more w (b ∷ bs) (suc i) h = word-more (after_byte w b) bs i (omega arith)

pub word-next : (bs : List ℕ) (i : ℕ) (r s : Word) → i < length bs → word_from no_word (take i bs) ≡ r → s ≡ after_byte r (get_or bs i 0) →
    word_from no_word (take (i + 1) bs) ≡ s
word-next bs i r s h f g =
    let up : i + 1 ≡ suc i = omega arith in
    ap (λ n. word_from no_word (take n bs)) up ∙ word-more no_word bs i h ∙ ap (λ w. after_byte w (get_or bs i 0)) f ∙ sym g

pub word-whole : (bs : List ℕ) (i : ℕ) (r : Word) (m : Meaning) → length bs ≤ i → word_from no_word (take i bs) ≡ r → m ≡ word_says r → m ≡ meaning bs
word-whole bs i r m h e f =
    f ∙ ap word_says (sym e) ∙ ap (λ xs. word_says (word_from no_word xs)) (take_all i bs h) ∙ sym (meaning_agrees bs)

digits-more : (w : Digits) (bs : List ℕ) (i : ℕ) → i < length bs → digits_from w (take (suc i) bs) ≡ after_digit (digits_from w (take i bs)) (get_or bs i 0)
digits-more w [] i h = absurd (omega arith)
digits-more w (b ∷ bs) zero h = refl
digits-more w (b ∷ bs) (suc i) h = digits-more (after_digit w b) bs i (omega arith)

pub digits-next : (bs : List ℕ) (i : ℕ) (r s : Digits) → i < length bs → digits_from Empty (take i bs) ≡ r → s ≡ after_digit r (get_or bs i 0) →
    digits_from Empty (take (i + 1) bs) ≡ s
digits-next bs i r s h f g =
    let up : i + 1 ≡ suc i = omega arith in
    ap (λ n. digits_from Empty (take n bs)) up ∙ digits-more Empty bs i h ∙ ap (λ w. after_digit w (get_or bs i 0)) f ∙ sym g

abbrev or_zero : Option ℕ → ℕ
or_zero None = 0
or_zero (Some n) = n

is_large : (m : ℕ) → 2 ^ 64 ≤ m → nat_lt m (2 ^ 64) ≡ false
is_large m h = search (rules, h)

below-number : (o : Option ℕ) (n : ℕ) → option_map capped o ≡ Some n → n < 2 ^ 64 → Some n ≡ below_limit o
below-number None n e h = absurd cc
below-number (Some m) n e h =
    let f : min m (2 ^ 64) ≡ n = ap or_zero e in
    let g : m ≡ n = omega arith in
    sym (ap (λ t. if t then Some m else None) (lt-ltb m (2 ^ 64) (omega arith)) ∙ ap Some g)

below-large : (o : Option ℕ) → option_map capped o ≡ Some (2 ^ 64) → None ≡ below_limit o
below-large None e = refl
below-large (Some m) e = let f : min m (2 ^ 64) ≡ 2 ^ 64 = ap or_zero e in sym (ap (λ t. if t then Some m else None) (is_large m (omega arith)))

below-none : (o : Option ℕ) → option_map capped o ≡ None → None ≡ below_limit o
below-none None e = refl
below-none (Some m) e = absurd cc

said : (bs : List ℕ) (i : ℕ) (d e : Digits) → length bs ≤ i → digits_from Empty (take i bs) ≡ d → d ≡ e → option_map capped (number bs) ≡ says e
said bs i d e h f g = number_agrees bs ∙ ap (λ xs. says (digits_from Empty xs)) (sym (take_all i bs h)) ∙ ap says (f ∙ g)

pub number-whole : (bs : List ℕ) (i n : ℕ) (d : Digits) → length bs ≤ i → digits_from Empty (take i bs) ≡ d → d ≡ Number n → n < 2 ^ 64 →
    Some n ≡ below_limit (number bs)
number-whole bs i n d h f g l = below-number (number bs) n (said bs i d (Number n) h f g) l

pub number-large : (bs : List ℕ) (i : ℕ) (d : Digits) → length bs ≤ i → digits_from Empty (take i bs) ≡ d → d ≡ Large → None ≡ below_limit (number bs)
number-large bs i d h f g = below-large (number bs) (said bs i d Large h f g)

pub number-empty : (bs : List ℕ) (i : ℕ) (d : Digits) → length bs ≤ i → digits_from Empty (take i bs) ≡ d → d ≡ Empty → None ≡ below_limit (number bs)
number-empty bs i d h f g = below-none (number bs) (said bs i d Empty h f g)

pub number-wrong : (bs : List ℕ) (i : ℕ) (d : Digits) → length bs ≤ i → digits_from Empty (take i bs) ≡ d → d ≡ NoNumber → None ≡ below_limit (number bs)
number-wrong bs i d h f g = below-none (number bs) (said bs i d NoNumber h f g)

-- a word of a clause in front
pub clause-next : (c : Clause) (line word others : List ℕ) (m : Meaning) (r : Result Clause WcnfFault) → clause_from c (map meaning (line_words line)) ≡ r →
    line_words line ≡ word ∷ line_words others → m ≡ meaning word → clause_from c (m ∷ map meaning (line_words others)) ≡ r
clause-next c line word others m r i e f =
    ap (λ x. clause_from c (x ∷ map meaning (line_words others))) f ∙ ap (λ ws. clause_from c (map meaning ws)) (sym e) ∙ i

-- lines that are left
abbrev pub lines_left : Option (Bor (List ℕ)) → List (List ℕ)
lines_left None = []
lines_left (Some text) = slice_split is_line_feed text.now

abbrev pub bytes_left : Option (Bor (List ℕ)) → ℕ
bytes_left None = 0
bytes_left (Some text) = length text.now + 1

-- the first line, and those that are left
pub first-line : (rest others : Option (Bor (List ℕ))) (text : Bor (List ℕ)) (line : List ℕ) → rest ≡ Some text →
    IfNone others (slice_split is_line_feed text.now ≡ line ∷ []) →
    IfSome others (λ r. slice_split is_line_feed text.now ≡ line ∷ slice_split is_line_feed r.now) → lines_left rest ≡ line ∷ lines_left others
first-line rest None text line s e f = ap lines_left s ∙ e
first-line rest (Some r) text line s e f = ap lines_left s ∙ f

pub fewer-bytes : (rest others : Option (Bor (List ℕ))) (text : Bor (List ℕ)) → rest ≡ Some text → IfSome others (λ r. length r.now < length text.now) →
    bytes_left others + 1 ≤ bytes_left rest
fewer-bytes rest None text s f = let h : bytes_left rest ≡ length text.now + 1 = ap bytes_left s in omega arith
fewer-bytes rest (Some r) text s f = let h : bytes_left rest ≡ length text.now + 1 = ap bytes_left s in let k : length r.now < length text.now = f in omega arith

fault-stays : (e : WcnfError) (n : ℕ) (ls : List (List ℕ)) → after_lines (Err e) n ls ≡ Err e
fault-stays e n [] = refl
fault-stays e n (l ∷ ls) = refl

pub line-read : (s t : WcnfReading) (n : ℕ) (line : List ℕ) (ls ms : List (List ℕ)) (all : Result WcnfReading WcnfError) → after_lines (Ok s) (n + 1) ls ≡ all →
    ls ≡ line ∷ ms → after_line s (line_words line) ≡ Ok t → after_lines (Ok t) (n + 1 + 1) ms ≡ all
line-read s t n line ls ms all i e f =
    sym (ap (λ x. after_lines (at_line (n + 1) x) (n + 1 + 1) ms) f) ∙ ap (λ x. after_lines (Ok s) (n + 1) x) (sym e) ∙ i

pub line-fault : (s : WcnfReading) (f : WcnfFault) (n : ℕ) (line : List ℕ) (ls ms : List (List ℕ)) (all : Result WcnfReading WcnfError) →
    after_lines (Ok s) (n + 1) ls ≡ all → ls ≡ line ∷ ms → after_line s (line_words line) ≡ Err f → all ≡ Err (record { line = n + 1; fault = f })
line-fault s f n line ls ms all i e g =
    sym i ∙ ap (λ x. after_lines (Ok s) (n + 1) x) e ∙ ap (λ x. after_lines (at_line (n + 1) x) (n + 1 + 1) ms) g
    ∙ fault-stays (record { line = n + 1; fault = f }) (n + 1 + 1) ms
