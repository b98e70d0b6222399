-- The lines of a solver's steps, and what writing them does to a target.
use Rattle.std.specs.Prelude.{◌≡◌, ℕ, ◌+◌, List, [], ◌∷◌, ◌++◌, take, flat_map, Result, Ok, Err}
use Rattle.varisat_theory.specs.promises.Derivations.{Line, Add, Delete}
use Rattle.varisat_theory.specs.inside.StepLaws.{unit_lines}
use Rattle.varisat_formula.specs.promises.Streams.{Taken}
use Rattle.varisat_lines.specs.declared.format.Encoding.{Encoding}
use Rattle.varisat_steps.specs.declared.step.ProofStep.{ProofStep}
use Rattle.varisat_steps.specs.declared.step.ProofStep.TheVariants.{AtClause, UnitClauses, DeleteClause, DeleteVar, FailedAssumptions}
use Rattle.varisat_lines.specs.declared.writer.WriteError.{WriteError}
use Rattle.varisat_lines.specs.declared.writer.WriteError.TheVariants.{Memory, Target}
use Rattle.varisat_lines.specs.promises.Lines.{ProofLine}
use Rattle.varisat_lines.specs.promises.Written.{line_written}

-- the lines of a step
abbrev pub step_lines : ProofStep → List Line
step_lines (AtClause c) = Add c.now ∷ []
step_lines (UnitClauses units) = unit_lines units.now
step_lines (DeleteClause c) = Delete c.now ∷ []
step_lines (DeleteVar v) = []
step_lines (FailedAssumptions core) = []

-- the bytes of lines
abbrev pub lines_written : Encoding → List ProofLine → List ℕ
lines_written encoding lines = flat_map (line_written encoding) lines

-- The lines' bytes were appended; or a beginning of them, as memory ran out, or by a fault that the target counts.
abbrev pub PutsLines : Encoding → Taken → Result (Unit {0}) WriteError → List ProofLine → Taken → Type 0
PutsLines encoding old (Ok u) lines new =
    (new.bytes ≡ old.bytes ++ lines_written encoding lines) × (new.faults ≡ old.faults)
PutsLines encoding old (Err Memory) lines new =
    ((n : ℕ) × (new.bytes ≡ old.bytes ++ take n (lines_written encoding lines))) × (new.faults ≡ old.faults)
PutsLines encoding old (Err (Target e)) lines new =
    ((n : ℕ) × (new.bytes ≡ old.bytes ++ take n (lines_written encoding lines))) × (new.faults ≡ old.faults + 1)
