-- What a whole DIMACS CNF text means, by its lines and tokens.
-- The format is that of the DIMACS challenge of 1993.
use Rattle.std.specs.Prelude.{ℕ, zero, suc, ◌+◌, ◌-◌, ◌*◌, ◌/◌, ◌^◌, ◌≤◌, min, max, Bool, true, false, ◌&&◌, ◌||◌, not, is_some, if◌then◌else◌, nat_lt, nat_le, ◌==◌, List, [], ◌∷◌, ◌++◌, map, Option, Some, None, codes, bytes_eq}
use Rattle.varisat_theory.specs.promises.Literals.{literal_of}
use Rattle.varisat_literals.specs.promises.Numbers.{variable_limit}
use Rattle.varisat_formula.specs.declared.dimacs.error.DimacsErrorKind.{DimacsErrorKind}
use Rattle.varisat_formula.specs.declared.dimacs.error.DimacsErrorKind.TheVariants.{UnexpectedInput, LiteralTooLarge, InvalidHeader, VarCount, ClauseCount, UnterminatedClause}
use Rattle.varisat_formula.specs.declared.dimacs.error.DimacsError.{DimacsError}
use Rattle.varisat_formula.specs.declared.dimacs.token.Meaning.{Meaning}
use Rattle.varisat_formula.specs.declared.dimacs.token.Meaning.TheVariants.{End, Literal, TooLarge, Wrong}
use Rattle.varisat_formula.specs.declared.dimacs.header.Sizes.{Sizes}
use Rattle.varisat_formula.specs.declared.dimacs.header.Heading.{Heading}
use Rattle.varisat_formula.specs.declared.dimacs.header.Heading.TheVariants.{Malformed, Oversized, Sized}

-- 1. Pieces of a list of bytes: a picked byte ends a piece, and the last piece ends where the list does.
abbrev pub put : Bool → ℕ → List (List ℕ) → List (List ℕ)
put true b pieces = [] ∷ pieces
put false b [] = (b ∷ []) ∷ []
put false b (piece ∷ pieces) = (b ∷ piece) ∷ pieces

-- the bytes cut at each picked one, which is left out; no byte gives one empty piece
abbrev pub split : (ℕ → Bool) → List ℕ → List (List ℕ)
split picked [] = [] ∷ []
split picked (b ∷ bs) = put (picked b) b (split picked bs)

-- the pieces that have a byte
abbrev pub nonempty : List (List ℕ) → List (List ℕ)
nonempty [] = []
nonempty ([] ∷ pieces) = nonempty pieces
nonempty ((b ∷ bs) ∷ pieces) = (b ∷ bs) ∷ nonempty pieces

-- all pieces but the last
abbrev pub but_last : List (List ℕ) → List (List ℕ)
but_last [] = []
but_last (piece ∷ []) = []
but_last (piece ∷ next ∷ pieces) = piece ∷ but_last (next ∷ pieces)

-- line feed; space, tab, carriage return and line feed
abbrev pub is_line_feed : ℕ → Bool
is_line_feed b = b == 10

-- a space, a tab, a carriage return or a line feed
abbrev pub is_blank : ℕ → Bool
is_blank b = (b == 32) || (b == 9) || (b == 13) || (b == 10)

-- all pieces of a line that ends; of a line that may go on, those that are ended
abbrev pub ended_pieces : Bool → List (List ℕ) → List (List ℕ)
ended_pieces true pieces = pieces
ended_pieces false pieces = but_last pieces

-- the tokens of a line are its longest runs of bytes that are no blanks
abbrev pub tokens : Bool → List ℕ → List (List ℕ)
tokens ended line = nonempty (ended_pieces ended (split is_blank line))

-- 2. Numbers: `0`, or digits without a leading zero.
abbrev pub is_digit : ℕ → Bool
is_digit b = nat_le 48 b && nat_le b 57

-- the number with further decimal digits, if all are digits
abbrev pub digits_after : ℕ → List ℕ → Option ℕ
digits_after n [] = Some n
digits_after n (d ∷ ds) = if is_digit d then digits_after (10 * n + (d - 48)) ds else None

-- a number in decimal: `0`, or digits of which the first is not 0
abbrev pub number : List ℕ → Option ℕ
number [] = None
number (d ∷ []) = digits_after 0 (d ∷ [])
number (d ∷ e ∷ ds) = if d == 48 then None else digits_after 0 (d ∷ e ∷ ds)

-- 3. Tokens: `0` ends a clause; an optional `-` and a number up to the limit of variables is a literal.
abbrev pub in_range : Bool → ℕ → Meaning
in_range polarity n = if nat_lt variable_limit n then TooLarge else Literal (literal_of (n - 1) polarity)

-- what a token without a minus means, by its number: `0` ends a clause
abbrev pub positive : Option ℕ → Meaning
positive None = Wrong
positive (Some zero) = End
positive (Some (suc n)) = in_range true (suc n)

-- what a token with a minus means, by the number behind it: there is no `-0`
abbrev pub negative : Option ℕ → Meaning
negative None = Wrong
negative (Some zero) = Wrong
negative (Some (suc n)) = in_range false (suc n)

-- what a token means
abbrev pub meaning : List ℕ → Meaning
meaning [] = Wrong
meaning (b ∷ bs) = if b == 45 then negative (number bs) else positive (number (b ∷ bs))

-- 4. The header: the tokens `p`, `cnf`, V, C and nothing else, with V up to the limit of variables and C below 2^64.
abbrev pub sized : ℕ → ℕ → Heading
sized v c = if nat_lt variable_limit v then Oversized else Sized (record { vars = v; clauses = c })

-- the header of these two numbers, if they are any: the count of clauses is below 2^64
abbrev pub sizes : Option ℕ → Option ℕ → Heading
sizes None c = Malformed
sizes (Some v) None = Malformed
sizes (Some v) (Some c) = if nat_lt c (2 ^ 64) then sized v c else Malformed

-- what the tokens of a header line say: `p`, `cnf`, two numbers and nothing else
abbrev pub header_of : List (List ℕ) → Heading
header_of [] = Malformed
header_of (p ∷ []) = Malformed
header_of (p ∷ cnf ∷ []) = Malformed
header_of (p ∷ cnf ∷ v ∷ []) = Malformed
header_of (p ∷ cnf ∷ v ∷ c ∷ []) = if bytes_eq p (codes "p") && bytes_eq cnf (codes "cnf") then sizes (number v) (number c) else Malformed
header_of (p ∷ cnf ∷ v ∷ c ∷ more ∷ rest) = Malformed

-- what a header says is within the limit
abbrev pub FitsLimit : Heading → Type 0
FitsLimit Malformed = Unit {0}
FitsLimit Oversized = Unit {0}
FitsLimit (Sized s) = s.vars ≤ variable_limit

-- 5. Items: the headers and the tokens of other lines, each with its line. A comment has none.
pub data Item : Type 0 where
  Header : ℕ → Heading → Item
  Token : ℕ → Meaning → Item

-- a header counts once its line has ended
abbrev pub header_items : Bool → ℕ → Heading → List Item
header_items true n heading = Header n heading ∷ []
header_items false n heading = []

-- the tokens of a line with what they mean
abbrev pub token_items : ℕ → List (List ℕ) → List Item
token_items n ts = map (λ t. Token n (meaning t)) ts

-- a line that begins with `c` is a comment, one that begins with `p` a header; any other has tokens of clauses
abbrev pub line_items : Bool → ℕ → List ℕ → List Item
line_items ended n [] = []
line_items ended n (b ∷ bs) =
    if b == 99 then []
    else
    (if b == 112 then header_items ended n (header_of (tokens true (b ∷ bs)))
    else token_items n (tokens ended (b ∷ bs)))

-- line numbers and counts stay at 2^64-1 once they are there
abbrev pub next : ℕ → ℕ
next n = min (n + 1) (2 ^ 64 - 1)

-- the items of lines, the first of which is line n; the last line ends only if the text does
abbrev pub items : Bool → ℕ → List (List ℕ) → List Item
items ended n [] = []
items ended n (line ∷ []) = line_items ended n line
items ended n (line ∷ more ∷ lines) = line_items true n line ++ items ended (next n) (more ∷ lines)

-- 6. Reading: what the items so far gave.
pub record Reading : Type 0 where
  -- the clauses that ended, and the open one
  pub clauses : List (List ℕ)
  pub begun : List ℕ
  -- how many clauses ended
  pub count : ℕ
  pub header : Option Sizes
  -- the larger of V and the highest number of a literal
  pub highest : ℕ
  pub fault : Option DimacsError

-- before the first item
abbrev pub nothing : Reading
nothing = record { clauses = []; begun = []; count = 0; header = None; highest = 0; fault = None }

-- the same with a fault in the line
abbrev pub failed : Reading → ℕ → DimacsErrorKind → Reading
failed r n k = record r { fault = Some (record { line = n; kind = k }) }

-- no clause is open
abbrev pub is_none_open : List ℕ → Bool
is_none_open [] = true
is_none_open (l ∷ ls) = false

-- a clause would begin after C clauses
abbrev pub is_one_too_many : Option Sizes → List ℕ → ℕ → Bool
is_one_too_many None begun count = false
is_one_too_many (Some s) begun count = is_none_open begun && nat_le s.clauses count

-- the number is above the count of variables that the header says
abbrev pub is_above : Option Sizes → ℕ → Bool
is_above None n = false
is_above (Some s) n = nat_lt s.vars n

-- what a token makes of the reading; of several faults the first here counts
abbrev pub after_token : Reading → ℕ → Meaning → Reading
after_token r n Wrong = failed r n UnexpectedInput
after_token r n TooLarge = failed r n LiteralTooLarge
after_token r n End =
    if is_one_too_many r.header r.begun r.count then failed r n ClauseCount else record r {
      clauses = r.clauses ++ r.begun ∷ [];
      begun = [];
      count = next r.count;
    }
after_token r n (Literal l) =
    if is_one_too_many r.header r.begun r.count then failed r n ClauseCount else (
    if is_above r.header (l / 2 + 1) then failed r n VarCount
    else record r { begun = r.begun ++ l ∷ []; highest = max r.highest (l / 2 + 1) })

-- a header or a token of a clause came before
abbrev pub is_started : Option Sizes → ℕ → List ℕ → Bool
is_started header count begun = is_some header || nat_lt 0 count || not (is_none_open begun)

-- a header may come once, before the first clause token
abbrev pub after_header : Reading → ℕ → Heading → Reading
after_header r n Malformed = failed r n InvalidHeader
after_header r n Oversized =
    if is_started r.header r.count r.begun then failed r n InvalidHeader else failed r n LiteralTooLarge
after_header r n (Sized s) =
    if is_started r.header r.count r.begun then failed r n InvalidHeader
    else record r { header = Some s; highest = max r.highest s.vars }

-- what an item makes of the reading
abbrev pub after : Reading → Item → Reading
after r (Header n heading) = after_header r n heading
after r (Token n meaning) = after_token r n meaning

-- nothing counts after the first fault
abbrev pub step_by : Option DimacsError → Reading → Item → Reading
step_by None r item = after r item
step_by (Some e) r item = r

-- the same, but that nothing counts behind a fault
abbrev pub step : Reading → Item → Reading
step r item = step_by r.fault r item

-- what items in turn make of the reading
abbrev pub read : Reading → List Item → Reading
read r [] = r
read r (item ∷ rest) = read (step r item) rest

-- 7. The end, in the last line: an open clause, and then too few clauses, are faults.
abbrev pub is_short : Option Sizes → ℕ → Bool
is_short None count = false
is_short (Some s) count = nat_lt count s.clauses

-- what the end makes of it: an open clause is a fault, and then too few clauses
abbrev pub at_end : Reading → ℕ → Reading
at_end r n =
    if not (is_none_open r.begun) then failed r n UnterminatedClause else (
    if is_short r.header r.count then failed r n ClauseCount else r)

-- A text ends, or may go on, or breaks off, which is a fault of this kind in the line that was reached.
pub data Ending : Type 0 where
  Ends : Ending
  GoesOn : Ending
  BreaksOff : DimacsErrorKind → Ending

-- the text ends here
abbrev pub is_whole : Ending → Bool
is_whole Ends = true
is_whole GoesOn = false
is_whole (BreaksOff k) = false

-- what the ending makes of it, where there is no fault yet
abbrev pub close_by : Option DimacsError → Ending → Reading → ℕ → Reading
close_by (Some e) ending r n = r
close_by None Ends r n = at_end r n
close_by None GoesOn r n = r
close_by None (BreaksOff k) r n = failed r n k

-- what the ending makes of it
abbrev pub close : Ending → Reading → ℕ → Reading
close ending r n = close_by r.fault ending r n

-- the lines of a text
abbrev pub lines : List ℕ → List (List ℕ)
lines text = split is_line_feed text

-- the number of the last line, where the first is line n
abbrev pub last_line : ℕ → List (List ℕ) → ℕ
last_line n [] = n
last_line n (line ∷ []) = n
last_line n (line ∷ more ∷ rest) = last_line (next n) (more ∷ rest)

-- 8. What a text gives.
abbrev pub gives : Ending → List ℕ → Reading
gives ending text = close ending (read nothing (items (is_whole ending) 1 (lines text))) (last_line 1 (lines text))

-- a whole text
abbrev pub dimacs : List ℕ → Reading
dimacs text = gives Ends text

-- the beginning of a text, of which the rest is not known
abbrev pub so_far : List ℕ → Reading
so_far text = gives GoesOn text

-- a text that breaks off
abbrev pub broken : DimacsErrorKind → List ℕ → Reading
broken kind text = gives (BreaksOff kind) text
