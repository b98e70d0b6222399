use Rattle.std.proofs.Common.{ℕ, ◌≤◌, ◌^◌}
use Rattle.varisat_formula.specs.promises.Formulas.{AreBelow}
use Rattle.varisat_simplify.proofs.simplify.named_count.Given as goal

abbrev pub invariant-loop-clause : goal.invariant-loop-clause
invariant-loop-clause g l = record {
  rest : (n : ℕ) → AreBelow n l.fn.formula.clauses → AreBelow n l.clause-iterator;
  below : (n : ℕ) → l.most ≤ n → AreBelow n l.clause-iterator → AreBelow n l.fn.formula.clauses;
  least : (n : ℕ) → AreBelow n l.fn.formula.clauses → l.most ≤ n;
  small : l.most ≤ 2 ^ 31;
}
