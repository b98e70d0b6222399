use Rattle.std.proofs.Common.{◌≡◌, ◌≤◌, ◌^◌, max, drop}
use Rattle.varisat_formula.specs.promises.Formulas.{variables_of}
use Rattle.varisat_solve.proofs.models.raised.Given as goal

abbrev pub invariant-loop-literal : goal.invariant-loop-literal
invariant-loop-literal l = record {
  count : max l.most (variables_of (drop l.literal-index l.literals)) ≡ max l.fn.count (variables_of l.literals);
  small : l.most ≤ 2 ^ 31;
}
