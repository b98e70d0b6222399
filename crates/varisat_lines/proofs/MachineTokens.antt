-- Bytes, one at a time: the machine parses the same of them as of their tokens.
use Rattle.std.proofs.Common.{◌≡◌, ℕ, suc, ◌+◌, ◌*◌, ◌%◌, ◌^◌, ◌<◌, ◌≤◌, List, [], ◌∷◌, ◌++◌, length, Bool, true, false, not, ◌&&◌, ◌||◌, ◌==◌, nat_lt, nat_le, if◌then◌else◌, refl, sym, ap, ◌∙◌, arith, rules}
use Rattle.varisat_formula.specs.declared.dimacs.token.Word.{Word}
use Rattle.varisat_formula.specs.declared.dimacs.token.Meaning.{Meaning}
use Rattle.varisat_formula.specs.declared.dimacs.token.Meaning.TheVariants.{End, Literal, TooLarge, Wrong}
use Rattle.varisat_formula.specs.promises.Dimacs.{is_blank, meaning, next}
use Rattle.varisat_formula.specs.inside.Machine.{no_word, after_byte, word_from}
use Rattle.varisat_formula.proofs.TokenBytes.{meaning_agrees}
use Rattle.varisat_lines.specs.declared.format.Encoding.{Encoding}
use Rattle.varisat_lines.specs.declared.format.Encoding.TheVariants.{Text, Binary}
use Rattle.varisat_lines.specs.declared.token.Symbol.{Symbol}
use Rattle.varisat_lines.specs.declared.token.Symbol.TheVariants.{Mark, Number, Cut, Bad}
use Rattle.varisat_lines.specs.declared.token.Event.TheVariants.{More}
use Rattle.varisat_lines.specs.declared.token.Part.{Part}
use Rattle.varisat_lines.specs.promises.Lines.{letter_kind}
use Rattle.varisat_lines.specs.promises.Grammar.{is_kind, meant, text_symbol, value_of, is_none, binary_symbol, text_token, text_tokens, cut_token, ends_number, binary_tokens, tokens, end_of}
use Rattle.varisat_lines.specs.inside.Machine.{ParserState, Parsed, line_at, event, moved, put, at_end, fault_offset, read, between, no_part, after_text, part_symbol, scale, grown_value, after_binary, number_symbol, ReaderState, ended_token, parsed_from, parsed}

-- 1. Tokens.
pub part_from : Part → List ℕ → Part
part_from part [] = part
part_from part (b ∷ bs) = part_from (after_text part b) bs

abbrev pub part_of : List ℕ → Part
part_of word = part_from no_part word

part_more : (part : Part) (word : List ℕ) (b : ℕ) → part_from part (word ++ b ∷ []) ≡ after_text (part_from part word) b
unfolding part_from
part_more part [] b = refl
part_more part (x ∷ word) b = part_more (after_text part x) word b

abbrev behind : ℕ → Word → Part
behind first w = record { count = 2; first = first; word = w; value = 0 }

part_behind : (first : ℕ) (w : Word) (bs : List ℕ) → part_from (behind first w) bs ≡ behind first (word_from w bs)
unfolding part_from
part_behind first w [] = refl
part_behind first w (b ∷ bs) = part_behind first (after_byte w b) bs

module _ (marked : Bool) where
  token_agrees : (b : ℕ) (bs : List ℕ) → part_symbol marked (part_of (b ∷ bs)) ≡ text_symbol marked (b ∷ bs)
  unfolding part_from
  token_agrees b [] = ap (λ m. if is_kind (letter_kind marked b) then Mark b else meant m) (sym (meaning_agrees (b ∷ [])))
  token_agrees b (c ∷ bs) = ap (λ p. part_symbol marked p) (part_behind b (after_byte (after_byte no_word b) c) bs) ∙
      ap meant (sym (meaning_agrees (b ∷ c ∷ bs)))

  some_part : (b : ℕ) (bs : List ℕ) → ((part_of (b ∷ bs)).count == 0) ≡ false
  unfolding part_from
  some_part b [] = refl
  some_part b (c ∷ bs) = ap (λ p. p.count == 0) (part_behind b (after_byte (after_byte no_word b) c) bs)

  meant_offset : (inside : Bool) (m : Meaning) (at end : ℕ) → fault_offset inside (meant m) at end ≡ at
  meant_offset inside End at end = refl
  meant_offset inside (Literal l) at end = refl
  meant_offset inside TooLarge at end = refl
  meant_offset inside Wrong at end = refl

  mark_offset : (t inside : Bool) (b : ℕ) (m : Meaning) (at end : ℕ) → fault_offset inside (if t then Mark b else meant m) at end ≡ at
  mark_offset true inside b m at end = refl
  mark_offset false inside b m at end = meant_offset inside m at end

  text_offset : (inside : Bool) (b : ℕ) (bs : List ℕ) (at end : ℕ) → fault_offset inside (text_symbol marked (b ∷ bs)) at end ≡ at
  text_offset inside b [] at end = mark_offset (is_kind (letter_kind marked b)) inside b (meaning (b ∷ [])) at end
  text_offset inside b (c ∷ bs) at end = meant_offset inside (meaning (b ∷ c ∷ bs)) at end

  abbrev text_at : ℕ → ℕ → Part → ParserState → ReaderState
  text_at at start part place = record { encoding = (Text marked); at = at; start = start; part = part; place = place }

  -- what is parsed of a token, and then of the rest
  abbrev token_parsed : ℕ → ParserState → ℕ → Symbol → (ParserState → Parsed) → Parsed
  token_parsed end place start symbol rest = put (event (Text marked) place.inside symbol) (line_at (moved (Text marked) place symbol))
      (fault_offset place.inside symbol start end) (rest (moved (Text marked) place symbol))

  -- the machine behind a byte
  abbrev text_step : Bool → Bool → ℕ → ℕ → Part → ParserState → ℕ → List ℕ → Parsed
  text_step blank empty at start part place b bs =
      let here : ReaderState = text_at at start part place in
      let then_ : ReaderState = if blank && not empty then ended_token here
      (moved (Text marked) place (part_symbol marked part)) else (if blank then ended_token here place else text_at (next at) start (after_text part b)
      place) in
      put (if blank && not empty then event (Text marked) place.inside (part_symbol marked part) else More) (line_at then_.place) start (parsed_from then_ bs)

  abbrev text_read : Bool → ℕ → ℕ → ℕ → List ℕ → ParserState → ℕ → List ℕ → Parsed
  text_read blank end at start word place b bs =
      read (Text marked) end place (if blank then text_token marked start word ++ text_tokens marked (next at) (next at) [] bs else text_tokens marked
      (next at) start (word ++ b ∷ []) bs)

  -- the same for all of a rest
  abbrev TextAgrees : List ℕ → Type 0
  TextAgrees bs = (at start : ℕ) (word : List ℕ) (place : ParserState) →
      parsed_from (text_at at start (part_of word) place) bs ≡ read (Text marked) (end_of at bs) place (text_tokens marked at start word bs)

  text_blank : (at start : ℕ) (word : List ℕ) (place : ParserState) (b : ℕ) (bs : List ℕ) → TextAgrees bs →
      text_step true ((part_of word).count == 0) at start (part_of word) place b bs ≡ text_read true (end_of (next at) bs) at start word place b bs
  unfolding part_from
  text_blank at start [] place b bs h = h (next at) (next at) [] place
  text_blank at start (c ∷ cs) place b bs h =
      let end = end_of (next at) bs in
      let word = c ∷ cs in
      let rest : ParserState → Parsed = λ q. parsed_from (text_at (next at) (next at) no_part q) bs in
      let us = text_tokens marked (next at) (next at) [] bs in
      ap (λ t. text_step true t at start (part_of word) place b bs) (some_part c cs)
      ∙ ap (λ s. put (event (Text marked) place.inside s) (line_at (moved (Text marked) place s)) start (rest (moved (Text marked) place s)))
      (token_agrees c cs)
      ∙ ap (λ o. put (event (Text marked) place.inside (text_symbol marked word)) (line_at (moved (Text marked) place (text_symbol marked word))) o
      (rest (moved (Text marked) place (text_symbol marked word)))) (sym (text_offset place.inside c cs start end))
      ∙ ap (λ t. put (event (Text marked) place.inside (text_symbol marked word)) (line_at (moved (Text marked) place (text_symbol marked word)))
      (fault_offset place.inside (text_symbol marked word) start end) t)
      (h (next at) (next at) [] (moved (Text marked) place (text_symbol marked word)))

  text_more : (at start : ℕ) (word : List ℕ) (place : ParserState) (b : ℕ) (bs : List ℕ) → TextAgrees bs →
      text_step false ((part_of word).count == 0) at start (part_of word) place b bs ≡ text_read false (end_of (next at) bs) at start word place b bs
  text_more at start word place b bs h =
      ap (λ p. parsed_from (text_at (next at) start p place) bs) (sym (part_more no_part word b)) ∙ h (next at) start (word ++ b ∷ []) place

  text_byte : (t : Bool) (at start : ℕ) (word : List ℕ) (place : ParserState) (b : ℕ) (bs : List ℕ) → TextAgrees bs →
      text_step t ((part_of word).count == 0) at start (part_of word) place b bs ≡ text_read t (end_of (next at) bs) at start word place b bs
  text_byte true at start word place b bs h = text_blank at start word place b bs h
  text_byte false at start word place b bs h = text_more at start word place b bs h

  text_closing : (at start : ℕ) (word : List ℕ) (place : ParserState) →
      parsed_from (text_at at start (part_of word) place) [] ≡ read (Text marked) at place (text_token marked start word)
  unfolding part_from
  text_closing at start [] place = refl
  text_closing at start (c ∷ cs) place =
      let s = text_symbol marked (c ∷ cs) in
      let parsed : Bool → Symbol → Parsed = λ t s. put (if t then More else event (Text marked) place.inside s)
      (line_at (if t then place else moved (Text marked) place s)) (fault_offset place.inside s start at)
      (at_end at (if t then place else moved (Text marked) place s)) in
      ap (λ t. parsed t (part_symbol marked (part_of (c ∷ cs)))) (some_part c cs) ∙ ap (λ s. parsed false s) (token_agrees c cs)

  text_agrees : (bs : List ℕ) → TextAgrees bs
  text_agrees [] = λ at start word place. text_closing at start word place
  text_agrees (b ∷ bs) = λ at start word place. text_byte (is_blank b) at start word place b bs (text_agrees bs)

-- 2. Numbers.
abbrev number_part : List ℕ → Part
number_part front = record { count = length front; first = 0; word = no_word; value = value_of front }

pub value_more : (front : List ℕ) (b : ℕ) → length front ≤ 4 → value_of front + scale (length front) * (b % 128) ≡ value_of (front ++ b ∷ [])
value_more [] b h = omega arith
value_more (x ∷ []) b h = omega arith
value_more (x ∷ y ∷ []) b h = omega arith
value_more (x ∷ y ∷ z ∷ []) b h = omega arith
value_more (x ∷ y ∷ z ∷ w ∷ []) b h = omega arith
value_more (x ∷ y ∷ z ∷ w ∷ v ∷ rest) b h = absurd (omega arith)

none_length : (front : List ℕ) → (length front == 0) ≡ is_none front
none_length [] = refl
none_length (x ∷ front) = nonzero (length front)
  where
    nonzero : (n : ℕ) → (suc n == 0) ≡ false
    nonzero n = search rules

number_agrees : (front : List ℕ) (b : ℕ) → length front ≤ 4 → number_symbol (number_part front) b ≡ binary_symbol front b
number_agrees front b h =
    let made : Bool → ℕ → Symbol = λ e v. if nat_lt b 128 && (nat_lt 0 b || e) && nat_le v (2 ^ 29 + 1) then Number v else Bad in
    ap (λ e. made e (grown_value (number_part front) b)) (none_length front) ∙ ap (λ v. made (is_none front) v) (value_more front b h)

part_grows : (front : List ℕ) (b : ℕ) → length front ≤ 4 → after_binary (number_part front) b ≡ number_part (front ++ b ∷ [])
part_grows front b h =
    let made : ℕ → ℕ → Part = λ n v. record { count = n; first = 0; word = no_word; value = v } in
    ap (λ n. made n (grown_value (number_part front) b)) (longer front b) ∙ ap (λ v. made (length (front ++ b ∷ [])) v) (value_more front b h)
  where
    longer : (front : List ℕ) (b : ℕ) → length front + 1 ≡ length (front ++ b ∷ [])
    longer [] b = refl
    longer (x ∷ front) b = let e = longer front b in omega (arith, e)

number_offset : (t inside : Bool) (v at end : ℕ) → fault_offset inside (if t then Number v else Bad) at end ≡ at
number_offset true inside v at end = refl
number_offset false inside v at end = refl

abbrev binary_at : ℕ → ℕ → Part → ParserState → ReaderState
binary_at at start part place = record { encoding = Binary; at = at; start = start; part = part; place = place }

abbrev binary_step : Bool → ℕ → ℕ → Part → ParserState → ℕ → List ℕ → Parsed
binary_step e at start part place b bs =
    let here : ReaderState = binary_at at start part place in
    let then_ : ReaderState = if e then ended_token here (moved Binary place (number_symbol part b)) else binary_at (next at) start (after_binary part b)
    place in
    put (if e then event Binary place.inside (number_symbol part b) else More) (line_at then_.place) start (parsed_from then_ bs)

abbrev binary_read : Bool → ℕ → ℕ → ℕ → List ℕ → ParserState → ℕ → List ℕ → Parsed
binary_read e end at start front place b bs =
    read Binary end place (if e then record { at = start; symbol = binary_symbol front b } ∷ binary_tokens (next at) (next at) [] bs else binary_tokens
    (next at) start (front ++ b ∷ []) bs)

abbrev BinaryAgrees : List ℕ → Type 0
BinaryAgrees bs =
    (at start : ℕ) (front : List ℕ) (place : ParserState) → length front ≤ 4 →
    parsed_from (binary_at at start (number_part front) place) bs ≡ read Binary (end_of at bs) place (binary_tokens at start front bs)

not_four : (c : Bool) (n : ℕ) → (c || n == 4) ≡ false → n ≤ 4 → n < 4
not_four true n e h = absurd cc
not_four false n e h = four n e h
  where
    four : (n : ℕ) → (n == 4) ≡ false → n ≤ 4 → n < 4
    four n e h = search (rules, e)

pub length_more : (front : List ℕ) (b : ℕ) → length (front ++ b ∷ []) ≡ length front + 1
length_more [] b = refl
length_more (x ∷ front) b = let e = length_more front b in omega (arith, e)

binary_byte : (t : Bool) (at start : ℕ) (front : List ℕ) (place : ParserState) (b : ℕ) (bs : List ℕ) → BinaryAgrees bs → length front ≤ 4 → ends_number front b ≡ t →
    binary_step t at start (number_part front) place b bs ≡ binary_read t (end_of (next at) bs) at start front place b bs
binary_byte true at start front place b bs h few e =
    let end = end_of (next at) bs in
    let s = binary_symbol front b in
    let rest : ParserState → Parsed = λ q. parsed_from (binary_at (next at) (next at) no_part q) bs in
    ap (λ s. put (event Binary place.inside s) (line_at (moved Binary place s)) start (rest (moved Binary place s))) (number_agrees front b few)
    ∙ ap (λ o. put (event Binary place.inside s) (line_at (moved Binary place s)) o (rest (moved Binary place s)))
    (sym (number_offset (nat_lt b 128 && (nat_lt 0 b || is_none front) && nat_le (value_of (front ++ b ∷ [])) (2 ^ 29 + 1)) place.inside
    (value_of (front ++ b ∷ [])) start end))
    ∙ ap (λ t. put (event Binary place.inside s) (line_at (moved Binary place s)) (fault_offset place.inside s start end) t)
    (h (next at) (next at) [] (moved Binary place s) (omega arith))
binary_byte false at start front place b bs h few e =
    let l = length_more front b in
    let g = not_four (nat_lt b 128) (length front) e few in
    ap (λ p. parsed_from (binary_at (next at) start p place) bs) (part_grows front b few) ∙ h (next at) start (front ++ b ∷ []) place (omega (arith, l, g))

binary_closing : (at start : ℕ) (front : List ℕ) (place : ParserState) →
    parsed_from (binary_at at start (number_part front) place) [] ≡ read Binary at place (cut_token start front)
binary_closing at start [] place = refl
binary_closing at start (c ∷ cs) place =
    let parsed : Bool → Parsed = λ t. put (if t then More else event Binary place.inside Cut) (line_at (if t then place else moved Binary place Cut))
    (fault_offset place.inside Cut start at) (at_end at (if t then place else moved Binary place Cut)) in
    ap parsed (none_length (c ∷ cs))

binary_agrees : (bs : List ℕ) → BinaryAgrees bs
binary_agrees [] = λ at start front place h. binary_closing at start front place
binary_agrees (b ∷ bs) = λ at start front place h. binary_byte (ends_number front b) at start front place b bs (binary_agrees bs) h refl

-- the machine parses the same of bytes as of their tokens
pub parsed_is : (f : Encoding) (bytes : List ℕ) → parsed f bytes ≡ read f (end_of 0 bytes) between (tokens f bytes)
unfolding part_from
parsed_is (Text marked) bytes = text_agrees marked bytes 0 0 [] between
parsed_is Binary bytes = binary_agrees bytes 0 0 [] between (omega arith)
