use Rattle.std.proofs.Common.{◌≡◌, ℕ, List, ◌++◌, take}
use Rattle.varisat_lines.specs.declared.format.Encoding.{Encoding}
use Rattle.varisat_lines.specs.promises.Lines.{ProofLine}
use Rattle.varisat_proof.specs.promises.Marked.{ProofState, state_of}
use Rattle.varisat_proof.specs.inside.Checks.{HasRead, IsAfterLines}
use Rattle.varisat_proof.proofs.CheckedLines.{SoFar}
use Rattle.varisat_proof.proofs.checker.check.Checker.read_piece.Given as goal
use Rattle.varisat_proof.specs.promises.DratChecks.{rules_of}

abbrev pub invariant-loop-b : goal.invariant-loop-b
invariant-loop-b g l = record {
  so : (f : Encoding) (P : ProofState) (text : List ℕ) (lines : List ProofLine) → HasRead f text lines l.fn.reader →
      IsAfterLines (rules_of l.fn.rules) P lines (state_of l.fn.self.clauses l.fn.builder) l.fn.count →
      SoFar (rules_of l.fn.rules) f P (text ++ take l.b-index l.piece) (state_of l.self.clauses l.builder) l.count l.reader;
  spent : l.self.spent ≡ l.fn.self.spent;
}
