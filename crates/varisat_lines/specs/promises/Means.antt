-- Each byte string means one thing: it is accepted for one list of lines, or has a first fault.
use Rattle.std.specs.Prelude.{ℕ, List, Option, Some, None}
use Rattle.varisat_lines.specs.declared.format.Encoding.{Encoding}
use Rattle.varisat_lines.specs.promises.Lines.{ProofLine}
use Rattle.varisat_lines.specs.promises.Grammar.{Accepted, Faulty}
use Rattle.varisat_lines.specs.inside.Machine.{Parsed}

-- the bytes are accepted for the lines, or these stand in front of their first fault
abbrev pub BytesMean : Encoding → List ℕ → List ProofLine → Option ℕ → Type 0
BytesMean encoding bytes lines None = Accepted encoding lines bytes
BytesMean encoding bytes lines (Some offset) = Faulty encoding lines bytes offset

-- the same, with the lines and the fault together
abbrev pub Means : Encoding → List ℕ → Parsed → Type 0
Means encoding bytes parsed = BytesMean encoding bytes parsed.lines parsed.fault
