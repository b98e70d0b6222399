use Rattle.std.proofs.Common.{◌≡◌, ◌++◌, List, ℕ}
use Rattle.varisat_formula.specs.promises.Written.{clauses_text, formula_text}
use Rattle.varisat_formula.proofs.dimacs.writer.write_dimacs.Given as goal

abbrev pub invariant-loop-clause : goal.invariant-loop-clause
invariant-loop-clause g l =
    (front : List ℕ) × ((g.W.ProofTarget.taken l.target).bytes ≡ (g.W.ProofTarget.taken l.fn.target).bytes ++ front)
    × (front ++ clauses_text l.clause-iterator ≡ formula_text l.fn.formula)
    × ((g.W.ProofTarget.taken l.target).faults ≡ (g.W.ProofTarget.taken l.fn.target).faults)
