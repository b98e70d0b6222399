use Rattle.std.proofs.Common.{◌≡◌, ◌++◌, take}
use Rattle.varisat_theory.specs.inside.StepLaws.{unit_lines}
use Rattle.varisat_lines.specs.promises.Lines.{plain_lines}
use Rattle.varisat_lines.specs.promises.Steps.{lines_written}
use Rattle.varisat_lines.proofs.writer.write_units.Given as goal

abbrev pub invariant-loop-unit : goal.invariant-loop-unit
invariant-loop-unit g l = record {
  put : (g.W.ProofTarget.taken l.target).bytes ≡ (g.W.ProofTarget.taken l.fn.target).bytes ++ lines_written l.encoding
      (plain_lines (unit_lines (take l.unit-index l.units)));
  quiet : (g.W.ProofTarget.taken l.target).faults ≡ (g.W.ProofTarget.taken l.fn.target).faults;
}
