use Rattle.std.proofs.Common.{◌≡◌, ◌++◌, take}
use Rattle.varisat_lines.specs.promises.Lines.{encoding_of, plain_lines}
use Rattle.varisat_lines.specs.promises.Steps.{lines_written}
use Rattle.varisat_solve.proofs.lines.write_history.Given as goal

abbrev pub invariant-loop-line : goal.invariant-loop-line
invariant-loop-line g l = record {
  put : (g.W.ProofTarget.taken l.target).bytes ≡ (g.W.ProofTarget.taken l.fn.target).bytes ++ lines_written (encoding_of l.format)
      (plain_lines (take l.line l.history.lines));
  quiet : (g.W.ProofTarget.taken l.target).faults ≡ (g.W.ProofTarget.taken l.fn.target).faults;
}
