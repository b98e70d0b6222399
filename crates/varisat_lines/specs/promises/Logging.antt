-- The lines that entries have, by encoding.
use Rattle.std.specs.Prelude.{ℕ, true, false, List, [], ◌∷◌, flat_map}
use Rattle.varisat_theory.specs.promises.Journals.{Entry, Accepts, Writes, Assumes, Fails, Retires}
use Rattle.varisat_lines.specs.declared.format.ProofFormat.{ProofFormat}
use Rattle.varisat_lines.specs.declared.format.Encoding.{Encoding}
use Rattle.varisat_lines.specs.declared.format.Encoding.TheVariants.{Text, Binary}
use Rattle.varisat_lines.specs.declared.format.LineKind.TheVariants as kinds
use Rattle.varisat_lines.specs.promises.Lines.{ProofLine, line_of_kind, plain_line, encoding_of}
use Rattle.varisat_lines.specs.promises.Steps.{lines_written}

-- a line that only marked text has
abbrev pub marked_line : Encoding → ProofLine → List ProofLine
marked_line (Text true) line = line ∷ []
marked_line (Text false) line = []
marked_line Binary line = []

-- the lines of an entry
abbrev pub entry_lines : Encoding → Entry → List ProofLine
entry_lines e (Writes line) = plain_line line ∷ []
entry_lines e (Accepts c) = marked_line e (line_of_kind kinds.Accepts c)
entry_lines e (Assumes a) = marked_line e (line_of_kind kinds.Assumes a)
entry_lines e (Fails core) = marked_line e (line_of_kind kinds.Fails core)
entry_lines e (Retires v) = []

-- the lines of entries, and their bytes
abbrev pub logged_lines : Encoding → List Entry → List ProofLine
logged_lines e entries = flat_map (entry_lines e) entries

-- the bytes of the lines that the format has for the entries
abbrev pub logged_bytes : ProofFormat → List Entry → List ℕ
logged_bytes format entries = lines_written (encoding_of format) (logged_lines (encoding_of format) entries)
