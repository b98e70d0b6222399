use Rattle.std.proofs.Common.{◌≡◌, ◌≤◌, ◌^◌, max}
use Rattle.varisat_solve.specs.promises.Extending.{named_count}
use Rattle.varisat_solve.proofs.models.named_count.Given as goal

abbrev pub invariant-loop-clause : goal.invariant-loop-clause
invariant-loop-clause g l = record {
  count : max l.most (named_count l.clause-iterator) ≡ named_count l.fn.formula.clauses;
  small : l.most ≤ 2 ^ 31;
}
