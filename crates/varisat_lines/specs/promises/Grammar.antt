-- Which bytes are accepted as the lines of a proof, and where the first fault is in others.
use Rattle.std.specs.Prelude.{◌≡◌, Option, Some, None, ℕ, ◌+◌, ◌*◌, ◌%◌, ◌^◌, nat_lt, nat_le, ◌==◌, Bool, true, false, not, ◌&&◌, ◌||◌, if◌then◌else◌, List, [], ◌∷◌, ◌++◌, map, length, flat_map, ◌⊎◌}
use Rattle.varisat_theory.specs.promises.Literals.{Clause}
use Rattle.varisat_formula.specs.declared.dimacs.token.Meaning.{Meaning}
use Rattle.varisat_formula.specs.declared.dimacs.token.Meaning.TheVariants.{End, Literal, TooLarge, Wrong}
use Rattle.varisat_formula.specs.promises.Dimacs.{is_blank, meaning, next}
use Rattle.varisat_lines.specs.declared.format.Encoding.{Encoding}
use Rattle.varisat_lines.specs.declared.format.Encoding.TheVariants.{Text, Binary}
use Rattle.varisat_lines.specs.declared.format.LineKind.{LineKind}
use Rattle.varisat_lines.specs.declared.format.LineKind.TheVariants.{Adds, Deletes}
use Rattle.varisat_lines.specs.declared.token.Symbol.{Symbol}
use Rattle.varisat_lines.specs.declared.token.Symbol.TheVariants.{Mark, Number, Cut, Bad}
use Rattle.varisat_lines.specs.promises.Lines.{ProofLine, has_kind, HasKinds, letter, letter_kind}

-- 1. What a token of the bytes says.
abbrev pub is_kind : Option LineKind → Bool
is_kind None = false
is_kind (Some kind) = true

-- a token of a text as the number that its binary line would have: 0 ends the line, a literal is its code and 2
abbrev pub meant : Meaning → Symbol
meant End = Number 0
meant (Literal l) = Number (l + 2)
meant TooLarge = Bad
meant Wrong = Bad

-- a token of text: a mark, or a number as in DIMACS
abbrev pub text_symbol : Bool → List ℕ → Symbol
text_symbol marked [] = Bad
text_symbol marked (b ∷ []) = if is_kind (letter_kind marked b) then Mark b else meant (meaning (b ∷ []))
text_symbol marked (b ∷ c ∷ bs) = meant (meaning (b ∷ c ∷ bs))

-- a binary number, the lowest seven bits first
abbrev pub value_of : List ℕ → ℕ
value_of [] = 0
value_of (b ∷ bs) = b % 128 + 128 * value_of bs

-- no byte
abbrev pub is_none : List ℕ → Bool
is_none [] = true
is_none (b ∷ bs) = false

-- Bytes with the byte b behind them: it ends the number, is 0 only where it stands alone, and the number is at most 2^29 + 1.
abbrev pub binary_symbol : List ℕ → ℕ → Symbol
binary_symbol front b =
    if nat_lt b 128 && (nat_lt 0 b || is_none front) && nat_le (value_of (front ++ b ∷ [])) (2 ^ 29 + 1)
    then Number (value_of (front ++ b ∷ [])) else Bad

-- 2. Tokens, each with the offset of its first byte. Offsets stay at 2^64-1 once they are there.
pub record Token : Type 0 where
  pub at : ℕ
  pub symbol : Symbol

-- the token of these bytes, if there are any
abbrev pub text_token : Bool → ℕ → List ℕ → List Token
text_token marked start [] = []
text_token marked start (b ∷ bs) = record { at = start; symbol = text_symbol marked (b ∷ bs) } ∷ []

-- Tokens of text are the longest runs of bytes that are no blanks. The bytes stand at offset `at`, behind the beginning of a token at offset `start`.
abbrev pub text_tokens : Bool → ℕ → ℕ → List ℕ → List ℕ → List Token
text_tokens marked at start word [] = text_token marked start word
text_tokens marked at start word (b ∷ bs) =
    if is_blank b then text_token marked start word ++ text_tokens marked (next at) (next at) [] bs
    else text_tokens marked (next at) start (word ++ b ∷ []) bs

-- a token of these bytes that the end cut off, if there are any
abbrev pub cut_token : ℕ → List ℕ → List Token
cut_token start [] = []
cut_token start (b ∷ bs) = record { at = start; symbol = Cut } ∷ []

-- a number ends behind a byte below 128, and is no longer than five bytes
abbrev pub ends_number : List ℕ → ℕ → Bool
ends_number front b = nat_lt b 128 || length front == 4

-- the tokens of binary bytes, behind those of an open number
abbrev pub binary_tokens : ℕ → ℕ → List ℕ → List ℕ → List Token
binary_tokens at start front [] = cut_token start front
binary_tokens at start front (b ∷ bs) =
    if ends_number front b
    then record { at = start; symbol = binary_symbol front b } ∷ binary_tokens (next at) (next at) [] bs
    else binary_tokens
    (next at) start (front ++ b ∷ []) bs

-- the tokens of a proof
abbrev pub tokens : Encoding → List ℕ → List Token
tokens (Text marked) bytes = text_tokens marked 0 0 [] bytes
tokens Binary bytes = binary_tokens 0 0 [] bytes

-- what the tokens say, without where they stand
abbrev pub symbols : List Token → List Symbol
symbols us = map (λ u. u.symbol) us

-- the offset behind the bytes
abbrev pub end_of : ℕ → List ℕ → ℕ
end_of at [] = at
end_of at (b ∷ bs) = end_of (next at) bs

-- 3. Lines.
abbrev pub literal_symbols : Clause → List Symbol
literal_symbols c = map (λ l. Number (l + 2)) c

-- what stands in front of a line's literals
abbrev pub mark_symbols : Encoding → LineKind → List Symbol
mark_symbols (Text marked) Adds = []
mark_symbols (Text marked) kind = Mark (letter kind) ∷ []
mark_symbols Binary kind = Number (letter kind) ∷ []

-- what a line says before its end
abbrev pub begun_symbols : Encoding → ProofLine → List Symbol
begun_symbols encoding line = mark_symbols encoding line.kind ++ literal_symbols line.clause

-- what a whole line says, with its end
abbrev pub line_symbols : Encoding → ProofLine → List Symbol
line_symbols encoding line = begun_symbols encoding line ++ Number 0 ∷ []

-- the bytes are accepted for just these lines: there are such lines, and the tokens say what the lines say
abbrev pub Accepted : Encoding → List ProofLine → List ℕ → Type 0
Accepted encoding lines bytes =
    HasKinds encoding lines × (symbols (tokens encoding bytes) ≡ flat_map (line_symbols encoding) lines)

-- 4. Faults.
abbrev pub is_some : List Symbol → Bool
is_some [] = false
is_some (s ∷ ss) = true

-- nothing, or the beginning of a line
abbrev pub IsBegunLine : Encoding → List Symbol → Type 0
IsBegunLine encoding begun =
    (begun ≡ []) ⊎ ((line : ProofLine) × (begun ≡ begun_symbols encoding line) × (has_kind encoding line.kind ≡ true))

-- the kind of binary line that a tag begins
abbrev pub tag_kind : ℕ → Option LineKind
tag_kind n = if n == 97 then Some Adds else (if n == 100 then Some Deletes else None)

-- whether a token can stand there: inside a line, or where one begins
abbrev pub fits : Encoding → Bool → Symbol → Bool
fits encoding true (Mark b) = false
fits encoding true (Number n) = not (n == 1)
fits encoding true Cut = true
fits encoding true Bad = false
fits (Text marked) false (Mark b) = is_kind (letter_kind marked b)
fits (Text marked) false (Number n) = not (n == 1)
fits Binary false (Mark b) = false
fits Binary false (Number n) = is_kind (tag_kind n)
fits encoding false Cut = false
fits encoding false Bad = false

-- Behind the lines, and maybe the beginning of another, a token stands that does not fit. It begins at the offset.
pub record WrongToken (encoding : Encoding) (us : List Token) (lines : List ProofLine) (offset : ℕ) : Type 0 where
  pub front : List Token
  pub token : Token
  pub back : List Token
  pub tokens_are : us ≡ front ++ token ∷ back
  pub has_kinds : HasKinds encoding lines
  pub begun : List Symbol
  pub is_begun : IsBegunLine encoding begun
  pub says : symbols front ≡ flat_map (line_symbols encoding) lines ++ begun
  pub wrong : fits encoding (is_some begun) token.symbol ≡ false
  pub offset_is : offset ≡ token.at

-- nothing, or a number that is cut off
abbrev pub IsCutOff : List Token → Type 0
IsCutOff [] = Unit {0}
IsCutOff (u ∷ us) = u.symbol ≡ Cut

-- Behind the lines the bytes end inside a line.
pub record EndsInside (encoding : Encoding) (us : List Token) (lines : List ProofLine) : Type 0 where
  pub front : List Token
  pub back : List Token
  pub tokens_are : us ≡ front ++ back
  pub has_kinds : HasKinds encoding lines
  pub cut : IsCutOff back
  pub begun : List Symbol
  pub is_begun : IsBegunLine encoding begun
  pub some : is_some begun ≡ true
  pub says : symbols front ≡ flat_map (line_symbols encoding) lines ++ begun

-- these lines stand in front of the first fault, which is at the offset
abbrev pub Faulty : Encoding → List ProofLine → List ℕ → ℕ → Type 0
Faulty encoding lines bytes offset =
    WrongToken encoding (tokens encoding bytes) lines offset
    ⊎ (EndsInside encoding (tokens encoding bytes) lines × (offset ≡ end_of 0 bytes))

-- the first fault of the bytes is at the offset
abbrev pub FaultAt : Encoding → List ℕ → ℕ → Type 0
FaultAt encoding bytes offset = (lines : List ProofLine) × Faulty encoding lines bytes offset
