use Rattle.std.proofs.Common.{◌≡◌, ◌++◌}
use Rattle.varisat_calls.specs.Lists.{clause_numbers}
use Rattle.varisat_calls.proofs.lists.list_clauses.Given as goal

abbrev pub invariant-loop-clause : goal.invariant-loop-clause
invariant-loop-clause g l = l.list.items ++ clause_numbers l.clause-iterator ≡ clause_numbers l.fn.formula.clauses
