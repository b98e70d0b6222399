-- Tokens and header lines, a byte at a time.
use Rattle.std.specs.Prelude.{◌≡◌, ℕ, zero, suc, ◌+◌, ◌-◌, ◌*◌, ◌^◌, Bool, true, false, ◌&&◌, not, if◌then◌else◌, nat_lt, ◌==◌, List, [], ◌∷◌, Option, Some, None}
use Rattle.varisat_formula.specs.declared.dimacs.token.Digits.{Digits}
use Rattle.varisat_formula.specs.declared.dimacs.token.Digits.TheVariants.{Empty, Number, Large, NoNumber}
use Rattle.varisat_formula.specs.declared.dimacs.token.Word.{Word}
use Rattle.varisat_formula.specs.declared.dimacs.token.Meaning.{Meaning}
use Rattle.varisat_formula.specs.declared.dimacs.header.Heading.{Heading}
use Rattle.varisat_formula.specs.declared.dimacs.header.Heading.TheVariants.{Malformed}
use Rattle.varisat_formula.specs.declared.dimacs.header.HeaderPart.{HeaderPart}
use Rattle.varisat_formula.specs.declared.dimacs.header.HeaderPart.TheVariants.{Name, Gap, C, Cn, Cnf, Vars, Clauses, Last, Bad}
use Rattle.varisat_formula.specs.promises.Dimacs.{is_digit, is_blank, positive, negative, sized}

-- one digit more: a number does not begin with 0
abbrev pub grown : ℕ → ℕ → Digits
grown zero d = NoNumber
grown (suc n) d = if nat_lt (10 * suc n + d) (2 ^ 64) then Number (10 * suc n + d) else Large

-- the digits with one byte more
abbrev pub after_digit : Digits → ℕ → Digits
after_digit Empty b = if is_digit b then Number (b - 48) else NoNumber
after_digit (Number n) b = if is_digit b then grown n (b - 48) else NoNumber
after_digit Large b = if is_digit b then Large else NoNumber
after_digit NoNumber b = NoNumber

-- the digits with several bytes more
abbrev pub digits_from : Digits → List ℕ → Digits
digits_from d [] = d
digits_from d (b ∷ bs) = digits_from (after_digit d b) bs

-- the number that the digits write, or 2^64 for a larger one
abbrev pub says : Digits → Option ℕ
says Empty = None
says (Number n) = Some n
says Large = Some (2 ^ 64)
says NoNumber = None

-- no digit was read
abbrev pub is_empty : Digits → Bool
is_empty Empty = true
is_empty (Number n) = false
is_empty Large = false
is_empty NoNumber = false

-- no byte of a token
abbrev pub no_word : Word
no_word = record { minus = false; digits = Empty }

-- no byte of a token was read
abbrev pub is_none : Word → Bool
is_none w = not w.minus && is_empty w.digits

-- the token with one byte more
abbrev pub after_byte : Word → ℕ → Word
after_byte w b =
    if is_none w && (b == 45) then record { minus = true; digits = Empty }
    else record { minus = w.minus; digits = after_digit w.digits b }

-- the token with several bytes more
abbrev pub word_from : Word → List ℕ → Word
word_from w [] = w
word_from w (b ∷ bs) = word_from (after_byte w b) bs

-- behind digits that write the number, with a minus sign before them or none
abbrev pub a_number : Bool → ℕ → Word
a_number m n = record { minus = m; digits = Number n }

-- the bytes go on with the token, to which they make it: none of them is a blank
abbrev pub GoesOnTo : Word → List ℕ → Word → Type 0
GoesOnTo w [] v = w ≡ v
GoesOnTo w (b ∷ bs) v = (is_blank b ≡ false) × GoesOnTo (after_byte w b) bs v

-- what the token means that was read
abbrev pub word_says : Word → Meaning
word_says w = if w.minus then negative (says w.digits) else positive (says w.digits)

-- a header line behind its `p`
abbrev pub vars_ended : Digits → HeaderPart
vars_ended Empty = Vars Empty
vars_ended (Number v) = Clauses v Empty
vars_ended Large = Clauses (2 ^ 64 - 1) Empty
vars_ended NoNumber = Bad

-- the part behind the number of clauses
abbrev pub clauses_ended : ℕ → Digits → HeaderPart
clauses_ended v Empty = Clauses v Empty
clauses_ended v (Number c) = Last v c
clauses_ended v Large = Bad
clauses_ended v NoNumber = Bad

-- the part of a header behind a blank
abbrev pub header_blank : HeaderPart → HeaderPart
header_blank Name = Gap
header_blank Gap = Gap
header_blank C = Bad
header_blank Cn = Bad
header_blank Cnf = Vars Empty
header_blank (Vars d) = vars_ended d
header_blank (Clauses v d) = clauses_ended v d
header_blank (Last v c) = Last v c
header_blank Bad = Bad

-- the part of a header behind a byte that is no blank
abbrev pub header_more : HeaderPart → ℕ → HeaderPart
header_more Name b = Bad
header_more Gap b = if b == 99 then C else Bad
header_more C b = if b == 110 then Cn else Bad
header_more Cn b = if b == 102 then Cnf else Bad
header_more Cnf b = Bad
header_more (Vars d) b = Vars (after_digit d b)
header_more (Clauses v d) b = Clauses v (after_digit d b)
header_more (Last v c) b = Bad
header_more Bad b = Bad

-- the part of a header with one byte more
abbrev pub after_header_byte : HeaderPart → ℕ → HeaderPart
after_header_byte h b = if is_blank b then header_blank h else header_more h b

-- the part of a header with several bytes more
abbrev pub header_from : HeaderPart → List ℕ → HeaderPart
header_from h [] = h
header_from h (b ∷ bs) = header_from (after_header_byte h b) bs

-- what a header says that ends in its last number
abbrev pub clauses_says : ℕ → Digits → Heading
clauses_says v Empty = Malformed
clauses_says v (Number c) = sized v c
clauses_says v Large = Malformed
clauses_says v NoNumber = Malformed

-- what a header says that ends here
abbrev pub header_says : HeaderPart → Heading
header_says (Clauses v d) = clauses_says v d
header_says (Last v c) = sized v c
header_says _ = Malformed
