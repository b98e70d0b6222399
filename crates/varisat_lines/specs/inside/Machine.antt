-- The lines of a proof, read a symbol at a time, and its bytes, read one at a time.
use Rattle.std.specs.Prelude.{ℕ, ◌+◌, ◌-◌, ◌*◌, ◌%◌, ◌^◌, ◌<◌, nat_lt, nat_le, ◌==◌, Bool, true, false, not, ◌&&◌, ◌||◌, if◌then◌else◌, List, [], ◌∷◌, ◌++◌, Option, Some, None}
use Rattle.varisat_theory.specs.promises.Literals.{Clause}
use Rattle.varisat_formula.specs.promises.Dimacs.{is_blank, next}
use Rattle.varisat_formula.specs.inside.Machine.{no_word, after_byte, word_says}
use Rattle.varisat_lines.specs.declared.format.Encoding.{Encoding}
use Rattle.varisat_lines.specs.declared.format.Encoding.TheVariants.{Text, Binary}
use Rattle.varisat_lines.specs.declared.format.LineKind.{LineKind}
use Rattle.varisat_lines.specs.declared.format.LineKind.TheVariants.{Adds}
use Rattle.varisat_lines.specs.declared.token.Symbol.{Symbol}
use Rattle.varisat_lines.specs.declared.token.Symbol.TheVariants.{Mark, Number, Cut, Bad}
use Rattle.varisat_lines.specs.declared.token.Event.{Event}
use Rattle.varisat_lines.specs.declared.token.Event.TheVariants.{More, Ended, Fault}
use Rattle.varisat_lines.specs.declared.token.Part.{Part}
use Rattle.varisat_lines.specs.promises.Lines.{ProofLine, line_of_kind, letter_kind}
use Rattle.varisat_lines.specs.promises.Grammar.{Token, is_kind, tag_kind, meant}

-- 1. Symbols.
-- Where a reader stands: inside a line or between two, what kind of line it is, and its literals so far. Between two lines these are the last line's.
pub record ParserState : Type 0 where
  pub inside : Bool
  pub kind : LineKind
  pub clause : Clause

-- the line that a place has
abbrev pub line_at : ParserState → ProofLine
line_at p = line_of_kind p.kind p.clause

-- what a number does inside a line: 0 ends it, and 1 is no literal
abbrev pub number_event : ℕ → Event
number_event n = if n == 0 then Ended else (if n == 1 then Fault else More)

-- what becomes of a symbol in front of a line, by the kind that it begins
abbrev pub begin_event : Option LineKind → Event
begin_event None = Fault
begin_event (Some kind) = More

-- what becomes of a symbol
abbrev pub event : Encoding → Bool → Symbol → Event
event encoding inside Cut = Fault
event encoding inside Bad = Fault
event (Text marked) inside (Mark b) = if inside then Fault else begin_event (letter_kind marked b)
event (Text marked) inside (Number n) = number_event n
event Binary inside (Mark b) = Fault
event Binary inside (Number n) = if inside then number_event n else begin_event (tag_kind n)

-- a number of a literal's code
abbrev pub IsSmall : Symbol → Type 0
IsSmall (Mark b) = Unit {0}
IsSmall (Number n) = n < 2 ^ 32 + 2
IsSmall Cut = Unit {0}
IsSmall Bad = Unit {0}

-- a line of the kind has begun
abbrev pub begin_line : LineKind → ParserState
begin_line kind = record { inside = true; kind = kind; clause = [] }

-- the place behind a number
abbrev pub after_number : ParserState → ℕ → ParserState
after_number p n =
    if n == 0 then record { inside = false; kind = p.kind; clause = p.clause } else (
    if n == 1 then p else record { inside = true; kind = p.kind; clause = p.clause ++ (n - 2) ∷ [] })

-- the place behind a mark, if it is one
abbrev pub begin_place : Option LineKind → ParserState → ParserState
begin_place None p = p
begin_place (Some kind) p = begin_line kind

-- the place behind a symbol that fits
abbrev pub moved : Encoding → ParserState → Symbol → ParserState
moved encoding p Cut = p
moved encoding p Bad = p
moved (Text marked) p (Mark b) = if p.inside then p else begin_place (letter_kind marked b) p
moved (Text marked) p (Number n) = after_number (if p.inside then p else begin_line Adds) n
moved Binary p (Mark b) = p
moved Binary p (Number n) = if p.inside then after_number p n else begin_place (tag_kind n) p

-- 2. What bytes have: the lines that ended, and the first fault.
pub record Parsed : Type 0 where
  pub lines : List ProofLine
  pub fault : Option ℕ

-- what an event adds in front of what comes after it: a fault ends all
abbrev pub put : Event → ProofLine → ℕ → Parsed → Parsed
put More line at parsed = parsed
put Ended line at parsed = record { lines = line ∷ parsed.lines; fault = parsed.fault }
put Fault line at parsed = record { lines = []; fault = Some at }

-- the end is a fault inside a line
abbrev pub at_end : ℕ → ParserState → Parsed
at_end end p = record { lines = []; fault = if p.inside then Some end else None }

-- the offset of a fault: the end's, where a number is cut off inside a line
abbrev pub fault_offset : Bool → Symbol → ℕ → ℕ → ℕ
fault_offset inside (Mark b) at end = at
fault_offset inside (Number n) at end = at
fault_offset inside Cut at end = if inside then end else at
fault_offset inside Bad at end = at

-- the lines of the tokens from a place on, and the first fault
abbrev pub read : Encoding → ℕ → ParserState → List Token → Parsed
read encoding end p [] = at_end end p
read encoding end p (u ∷ us) =
    put (event encoding p.inside u.symbol) (line_at (moved encoding p u.symbol))
    (fault_offset p.inside u.symbol u.at end)
    (read encoding end (moved encoding p u.symbol) us)

-- between two lines
abbrev pub between : ParserState
between = record { inside = false; kind = Adds; clause = [] }

-- 3. Bytes.
-- no byte of a token
abbrev pub no_part : Part
no_part = record { count = 0; first = 0; word = no_word; value = 0 }

-- a byte more of a token, of which it is enough to count two
abbrev pub after_text : Part → ℕ → Part
after_text part b = record {
  count = if part.count == 0 then 1 else 2;
  first = if part.count == 0 then b else part.first;
  word = after_byte part.word b;
  value = 0;
}

-- what an open token of a text says as it ends
abbrev pub part_symbol : Bool → Part → Symbol
part_symbol marked part =
    if part.count == 1 && is_kind (letter_kind marked part.first) then Mark part.first else meant (word_says part.word)

-- 128^k up to k = 4
abbrev pub scale : ℕ → ℕ
scale k =
    if k == 0 then 1
    else (if k == 1 then 128 else (if k == 2 then 0x4000 else (if k == 3 then 0x20_0000 else 0x1000_0000)))

-- the value of an open number with one byte more
abbrev pub grown_value : Part → ℕ → ℕ
grown_value part b = part.value + scale part.count * (b % 128)

-- an open number with one byte more
abbrev pub after_binary : Part → ℕ → Part
after_binary part b =
    record { count = part.count + 1; first = part.first; word = part.word; value = grown_value part b }

-- what an open number says as this byte ends it: only the shortest form is one, and only a code in range
abbrev pub number_symbol : Part → ℕ → Symbol
number_symbol part b =
    if nat_lt b 128 && (nat_lt 0 b || part.count == 0) && nat_le (grown_value part b) (2 ^ 29 + 1)
    then Number (grown_value part b) else Bad

-- whether a token ends at the byte, and what it says
abbrev pub ends : Encoding → Part → ℕ → Bool
ends (Text marked) part b = is_blank b && not (part.count == 0)
ends Binary part b = nat_lt b 128 || part.count == 4

-- what the open token says as this byte ends it
abbrev pub symbol_of : Encoding → Part → ℕ → Symbol
symbol_of (Text marked) part b = part_symbol marked part
symbol_of Binary part b = number_symbol part b

-- whether the byte stands between tokens
abbrev pub is_between : Encoding → ℕ → Bool
is_between (Text marked) b = is_blank b
is_between Binary b = false

-- the open token with one byte more
abbrev pub grown : Encoding → Part → ℕ → Part
grown (Text marked) part b = after_text part b
grown Binary part b = after_binary part b

-- How far a reader has come: the offset of the next byte, and of the first byte of the token that was begun.
pub record ReaderState : Type 0 where
  pub encoding : Encoding
  pub at : ℕ
  pub start : ℕ
  pub part : Part
  pub place : ParserState

-- before the first byte
abbrev pub begin : Encoding → ReaderState
begin encoding = record { encoding = encoding; at = 0; start = 0; part = no_part; place = between }

-- what a byte does to the line
abbrev pub happens : ReaderState → ℕ → Event
happens p b = if ends p.encoding p.part b then event p.encoding p.place.inside (symbol_of p.encoding p.part b) else More

-- behind the end of a token
abbrev pub ended_token : ReaderState → ParserState → ReaderState
ended_token p place = record { encoding = p.encoding; at = next p.at; start = next p.at; part = no_part; place = place }

-- behind a byte that ends no token
abbrev pub went_on : ReaderState → ℕ → ReaderState
went_on p b = if is_between p.encoding b then ended_token p p.place else record
    { encoding = p.encoding; at = next p.at; start = p.start; part = grown p.encoding p.part b; place = p.place }

-- behind a byte
abbrev pub after : ReaderState → ℕ → ReaderState
after p b =
    if ends p.encoding p.part b then ended_token p (moved p.encoding p.place (symbol_of p.encoding p.part b))
    else went_on p b

-- the end of the bytes: what the last token says, if there is one
abbrev pub last_symbol : Encoding → Part → Symbol
last_symbol (Text marked) part = part_symbol marked part
last_symbol Binary part = Cut

-- what the end does to a token that is still open
abbrev pub last_event : ReaderState → Event
last_event p = if p.part.count == 0 then More else event p.encoding p.place.inside (last_symbol p.encoding p.part)

-- the place behind that token
abbrev pub last_place : ReaderState → ParserState
last_place p = if p.part.count == 0 then p.place else moved p.encoding p.place (last_symbol p.encoding p.part)

-- where a fault of that token is reported
abbrev pub last_offset : ReaderState → ℕ
last_offset p = fault_offset p.place.inside (last_symbol p.encoding p.part) p.start p.at

-- what the end gives
abbrev pub closing : ReaderState → Parsed
closing p = put (last_event p) (line_at (last_place p)) (last_offset p) (at_end p.at (last_place p))

-- what the rest of the bytes has
abbrev pub parsed_from : ReaderState → List ℕ → Parsed
parsed_from p [] = closing p
parsed_from p (b ∷ bs) = put (happens p b) (line_at (after p b).place) p.start (parsed_from (after p b) bs)

-- the lines of whole bytes, and the first fault
abbrev pub parsed : Encoding → List ℕ → Parsed
parsed encoding bytes = parsed_from (begin encoding) bytes
