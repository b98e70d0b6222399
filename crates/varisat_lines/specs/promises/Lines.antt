-- The lines of a proof, and the formats that have them.
-- DRAT is the format of Wetzler, Heule and Hunt (2014).
use Rattle.std.specs.Prelude.{◌≡◌, ℕ, min, ◌-◌, ◌^◌, ◌==◌, Bool, true, false, if◌then◌else◌, List, [], ◌∷◌, map, Option, Some, None}
use Rattle.varisat_theory.specs.promises.Literals.{Clause}
use Rattle.varisat_theory.specs.promises.Derivations.{Line, Add, Delete}
use Rattle.varisat_lines.specs.declared.format.ProofFormat.{ProofFormat}
use Rattle.varisat_lines.specs.declared.format.ProofFormat.TheVariants.{Drat, BinaryDrat, Marked}
use Rattle.varisat_lines.specs.declared.format.Encoding.{Encoding}
use Rattle.varisat_lines.specs.declared.format.Encoding.TheVariants.{Text, Binary}
use Rattle.varisat_lines.specs.declared.format.LineKind.{LineKind}
use Rattle.varisat_lines.specs.declared.format.LineKind.TheVariants.{Adds, Deletes, Accepts, Assumes, Fails}

-- a line of a proof: its kind, and a clause or a list of literals
pub record ProofLine : Type 0 where
  pub kind : LineKind
  pub clause : Clause

-- a line of the kind
abbrev pub line_of_kind : LineKind → Clause → ProofLine
line_of_kind kind c = record { kind = kind; clause = c }

-- a line that adds a clause or deletes one
abbrev pub plain_line : Line → ProofLine
plain_line (Add c) = line_of_kind Adds c
plain_line (Delete c) = line_of_kind Deletes c

-- the lines of a derivation as lines of a proof
abbrev pub plain_lines : List Line → List ProofLine
plain_lines lines = map plain_line lines

-- how a format is written
abbrev pub encoding_of : ProofFormat → Encoding
encoding_of Drat = Text false
encoding_of BinaryDrat = Binary
encoding_of Marked = Text true

-- and how it is read where marks are no lines
abbrev pub plain_encoding : ProofFormat → Encoding
plain_encoding Drat = Text false
plain_encoding BinaryDrat = Binary
plain_encoding Marked = Text false

-- whether a format also has lines for what was given: clauses, assumptions and cores
abbrev pub has_marks : ProofFormat → Bool
has_marks Drat = false
has_marks BinaryDrat = false
has_marks Marked = true

-- whether there are lines of the kind: some are only in marked text
abbrev pub has_kind : Encoding → LineKind → Bool
has_kind e Adds = true
has_kind e Deletes = true
has_kind (Text marked) kind = marked
has_kind Binary kind = false

-- there are lines of all these kinds in the format
abbrev pub HasKinds : Encoding → List ProofLine → Type 0
HasKinds e [] = Unit {0}
HasKinds e (line ∷ lines) = (has_kind e line.kind ≡ true) × HasKinds e lines

-- the letters of the kinds, in text as marks and in binary as tags; an added line of text has none
abbrev pub letter : LineKind → ℕ
letter Adds = 97
letter Deletes = 100
letter Accepts = 105
letter Assumes = 113
letter Fails = 102

-- the kind of line that a letter of text marks
abbrev pub letter_kind : Bool → ℕ → Option LineKind
letter_kind marked b =
    if b == 100 then Some
    Deletes else (if marked then (if b == 105 then Some Accepts else (if b == 113 then Some
    Assumes else (if b == 102 then Some Fails else None))) else None)

-- numbers of lines stay at 2^64-1
abbrev pub step_number : ℕ → ℕ
step_number n = min n (2 ^ 64 - 1)
