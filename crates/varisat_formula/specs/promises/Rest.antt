-- What the rest of a text gives, for a text whose beginning was read.
use Rattle.std.specs.Prelude.{◌≡◌, ℕ, ◌<◌, ◌≤◌, List, [], ◌∷◌, ◌++◌, ◌⊎◌, Bool, true, false, ◌==◌, if◌then◌else◌, length, Option, Some, None, Result, Ok, Err, take, slice_index}
use Rattle.varisat_formula.specs.declared.dimacs.token.Word.{Word}
use Rattle.varisat_formula.specs.declared.dimacs.header.HeaderPart.TheVariants.{Name}
use Rattle.varisat_formula.specs.declared.dimacs.parser.ParserState.{ParserState}
use Rattle.varisat_formula.specs.declared.dimacs.parser.ParserState.TheVariants.{Start, Comment, Header, Plain}
use Rattle.varisat_literals.specs.promises.Numbers.{variable_limit}
use Rattle.varisat_formula.specs.declared.dimacs.error.DimacsError.{DimacsError}
use Rattle.varisat_formula.specs.declared.dimacs.error.DimacsErrorKind.TheVariants.{Io, OutOfMemory}
use Rattle.varisat_formula.specs.promises.Dimacs.{Item, Token, Reading, nothing, is_one_too_many, is_above, is_blank, header_items, line_items, items, next, lines, last_line, read, Ending, Ends, GoesOn, BreaksOff, is_whole, close}
use Rattle.varisat_formula.specs.inside.Machine.{no_word, is_none, after_byte, word_says, header_from, header_says}

-- where the reader stands: in which line, at its start, in a comment, behind a part of a header, or in another line behind
-- a part of a token; what was read before that; and whether the text is over
pub record Progress : Type 0 where
  pub line : ℕ
  pub place : ParserState
  pub over : Bool
  pub reading : Reading

-- before the first byte
abbrev pub begin : Progress
begin = record { line = 1; place = Start; over = false; reading = nothing }

-- the token, or nothing
abbrev pub word_items : ℕ → Word → List Item
word_items n w = if is_none w then [] else Token n (word_says w) ∷ []

-- the tokens of the rest of a line, the first of which goes on
abbrev pub plain_rest : Bool → ℕ → Word → List ℕ → List Item
plain_rest ended n w [] = if ended then word_items n w else []
plain_rest ended n w (b ∷ bs) =
    if is_blank b then word_items n w ++ plain_rest ended n no_word bs else plain_rest ended n (after_byte w b) bs

-- behind the first byte of a line
abbrev pub start_place : ℕ → ParserState
start_place b =
    if b == 99 then Comment
    else (if b == 112 then Header Name else (if is_blank b then Plain no_word else Plain (after_byte no_word b)))

-- the items of the line that the reader is in, whose rest is given
abbrev pub line_rest : Bool → ℕ → ParserState → List ℕ → List Item
line_rest ended n Start line = line_items ended n line
line_rest ended n Comment line = []
line_rest ended n (Header h) line = header_items ended n (header_says (header_from h line))
line_rest ended n (Plain w) line = plain_rest ended n w line

-- what was read once the line ends here
abbrev pub line_ended : Progress → Reading
line_ended p = read p.reading (line_rest true p.line p.place [])

-- the items of the rest of a text, the first line of it from a place on
abbrev pub rest_items : Bool → ℕ → ParserState → List (List ℕ) → List Item
rest_items ended n place [] = []
rest_items ended n place (line ∷ []) = line_rest ended n place line
rest_items ended n place (line ∷ more ∷ rest) = line_rest true n place line ++ items ended (next n) (more ∷ rest)

-- what the text gives; a text that is over gives no more
abbrev pub gives_from : Ending → Progress → List ℕ → Reading
gives_from ending p rest =
    if p.over then p.reading
    else close ending (read p.reading (rest_items (is_whole ending) p.line p.place (lines rest)))
    (last_line p.line (lines rest))

-- what a whole text gives whose rest this is
abbrev pub dimacs_from : Progress → List ℕ → Reading
dimacs_from p rest = gives_from Ends p rest

-- what a text gives that may go on, whose rest so far this is
abbrev pub so_far_from : Progress → List ℕ → Reading
so_far_from p rest = gives_from GoesOn p rest

-- what is returned where the source fails: the first fault, or `Io` in the line that was reached
abbrev pub failing_by : Option DimacsError → ℕ → DimacsError
failing_by None n = record { line = n; kind = Io }
failing_by (Some e) n = e

-- what is returned where the source fails: the first fault, or that, in the line that was reached
abbrev pub failing : Progress → DimacsError
failing p = failing_by p.reading.fault p.line

-- q is what p becomes by reading the text
pub record AdvancesBy (p : Progress) (text : List ℕ) (q : Progress) : Type 0 where
  pub same : (ending : Ending) (rest : List ℕ) → gives_from ending q rest ≡ gives_from ending p (text ++ rest)

-- the fault that was returned, if there is one
abbrev pub fault_of : {X : Type 0} → Result X DimacsError → Option DimacsError
fault_of (Ok x) = None
fault_of (Err e) = Some e

-- a token was kept: a literal or the end of a clause, without a fault
pub record KeepsToken (r s : Reading) : Type 0 where
  pub fine : s.fault ≡ r.fault
  pub more : s ≡ r → ⊥

-- Memory ran out behind the text, where a token stands that a blank would have ended, and that is to be kept.
pub record RunsOut (p : Progress) (text : List ℕ) (q : Progress) : Type 0 where
  pub reading : q.reading ≡ gives_from (BreaksOff OutOfMemory) p text
  pub wants : KeepsToken (so_far_from p text) (so_far_from p (text ++ 32 ∷ []))

-- q is p at the end of the text, where memory may have run out
abbrev pub IsEnding : Progress → Progress → Type 0
IsEnding p q = (q.reading ≡ dimacs_from p []) ⊎ RunsOut p [] q

-- the token at which the reader stands is to be kept
pub record WantsRoom (p : Progress) : Type 0 where
  pub word : Word
  pub place_is : p.place ≡ Plain word
  pub keeps : KeepsToken p.reading (read p.reading (word_items p.line word))

-- memory ran out at a blank of the text
pub record RunsOutIn (p : Progress) (text : List ℕ) (q : Progress) : Type 0 where
  pub at : ℕ
  pub blank : is_blank (slice_index text at) ≡ true
  pub out : RunsOut p (take at text) q

-- with the clauses that were taken before
abbrev pub with_front : List (List ℕ) → Reading → Reading
with_front front r = record r { clauses = front ++ r.clauses }

-- the text is not over, and has no fault so far
pub record IsReading (p : Progress) : Type 0 where
  pub not_over : p.over ≡ false
  pub no_fault : p.reading.fault ≡ None

-- q is what p becomes by reading the first n of the bytes, among which is no fault
pub record ReadsOn (p : Progress) (bytes : List ℕ) (n : ℕ) (q : Progress) : Type 0 where
  pub within : n ≤ length bytes
  pub reads : AdvancesBy p (take n bytes) q
  pub goes_on : IsReading q

-- at the start of a line, or behind a token and its blank
abbrev pub IsBetween : ParserState → Type 0
IsBetween place = (place ≡ Start) ⊎ (place ≡ Plain no_word)

-- a literal with a number up to n is no fault here
pub record Allows (r : Reading) (n : ℕ) : Type 0 where
  pub small : n ≤ variable_limit
  pub room : 0 < n → is_one_too_many r.header r.begun r.count ≡ false
  pub below : (m : ℕ) → m ≤ n → is_above r.header m ≡ false
