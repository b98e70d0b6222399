use Rattle.std.proofs.Common.{◌≡◌, ◌+◌}
use Rattle.varisat_simplify.specs.promises.Simplified.{literal_count}
use Rattle.varisat_solve.proofs.options.has_literals.Given as goal

abbrev pub invariant-loop-clause : goal.invariant-loop-clause
invariant-loop-clause g l = l.fn.least + literal_count l.clause-iterator ≡ l.missing + literal_count l.fn.formula.clauses
