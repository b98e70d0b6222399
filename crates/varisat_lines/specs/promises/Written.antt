-- What is written for the lines of a proof.
use Rattle.std.specs.Prelude.{◌≡◌, ℕ, zero, suc, ◌+◌, ◌/◌, ◌%◌, ◌<◌, ◌^◌, nat_lt, if◌then◌else◌, List, [], ◌∷◌, ◌++◌, flat_map}
use Rattle.varisat_theory.specs.promises.Membership.{◌∈◌}
use Rattle.varisat_theory.specs.promises.Literals.{Literal, Clause}
use Rattle.varisat_formula.specs.promises.Written.{spaced_literals}
use Rattle.varisat_lines.specs.declared.format.Encoding.{Encoding}
use Rattle.varisat_lines.specs.declared.format.Encoding.TheVariants.{Text, Binary}
use Rattle.varisat_lines.specs.declared.format.LineKind.{LineKind}
use Rattle.varisat_lines.specs.declared.format.LineKind.TheVariants.{Adds}
use Rattle.varisat_lines.specs.promises.Lines.{ProofLine, letter}

-- Text: all but an added line begin with a letter and a space. Each number has a space behind it, and then come `0` and a line feed.
abbrev pub mark_text : LineKind → List ℕ
mark_text Adds = []
mark_text kind = letter kind ∷ 32 ∷ []

-- a line as text: its mark, each number with a space behind it, `0` and a line feed
abbrev pub line_text : ProofLine → List ℕ
line_text line = mark_text line.kind ++ (spaced_literals line.clause ++ 48 ∷ 10 ∷ [])

-- The shortest unsigned LEB128 of a number, with at most k bytes before the last: seven bits a byte, the lowest first, and 128 more in each byte but the last.
abbrev pub leb128_by : ℕ → ℕ → List ℕ
leb128_by zero n = n ∷ []
leb128_by (suc k) n = if nat_lt n 128 then n ∷ [] else (128 + n % 128) ∷ leb128_by k (n / 128)

-- of a number below 2^35
unfoldable pub leb128 : ℕ → List ℕ
leb128 n = leb128_by 4 n

-- each literal as the number that is its code and 2
abbrev pub codes_bytes : Clause → List ℕ
codes_bytes [] = []
codes_bytes (l ∷ ls) = leb128 (l + 2) ++ codes_bytes ls

-- Binary: a tag byte, the literals' codes and 2 each, and 0.
abbrev pub line_bytes : ProofLine → List ℕ
line_bytes line = letter line.kind ∷ (codes_bytes line.clause ++ 0 ∷ [])

-- what is written for a line
abbrev pub line_written : Encoding → ProofLine → List ℕ
line_written (Text marked) line = line_text line
line_written Binary line = line_bytes line

-- the bytes that are written for the lines
abbrev pub Written : Encoding → List ProofLine → List ℕ → Type 0
Written encoding lines bytes = bytes ≡ flat_map (line_written encoding) lines

-- the variables' numbers are at most 2^28
abbrev pub AreInRange : List ProofLine → Type 0
AreInRange lines = (line : ProofLine) (l : Literal) → line ∈ lines → l ∈ line.clause → l < 2 ^ 29
