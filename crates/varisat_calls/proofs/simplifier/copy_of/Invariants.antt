use Rattle.std.proofs.Common.{◌≡◌, ◌++◌}
use Rattle.varisat_calls.proofs.simplifier.copy_of.Given as goal

abbrev pub invariant-loop-clause : goal.invariant-loop-clause
invariant-loop-clause g l = l.copy.clauses ++ l.clause-iterator ≡ l.fn.formula.clauses
