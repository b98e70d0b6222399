use Rattle.std.proofs.Common.{◌≡◌, ◌++◌}
use Rattle.varisat_incremental.proofs.reconstruction.append.Given as goal

abbrev pub invariant-loop-clause : goal.invariant-loop-clause
invariant-loop-clause g l = l.formula.clauses ++ l.clause-iterator ≡ l.fn.formula.clauses ++ l.fn.more.clauses
