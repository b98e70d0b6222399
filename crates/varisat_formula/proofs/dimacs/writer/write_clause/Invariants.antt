use Rattle.std.proofs.Common.{◌≡◌, ◌++◌, take}
use Rattle.varisat_formula.specs.promises.Written.{spaced_literals}
use Rattle.varisat_formula.proofs.dimacs.writer.write_clause.Given as goal

abbrev pub invariant-loop-literal : goal.invariant-loop-literal
invariant-loop-literal g l = record {
  put : (g.W.ProofTarget.taken l.target).bytes ≡ (g.W.ProofTarget.taken l.fn.target).bytes ++ spaced_literals (take l.literal-index l.clause);
  quiet : (g.W.ProofTarget.taken l.target).faults ≡ (g.W.ProofTarget.taken l.fn.target).faults;
}
