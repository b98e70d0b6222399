use Rattle.std.proofs.Common.{◌≡◌, ◌≤◌, ◌^◌, max, drop}
use Rattle.varisat_formula.specs.promises.Formulas.{variables_of}
use Rattle.varisat_formula.proofs.formula.cnf.variables_of.Given as goal

abbrev pub invariant-loop-literal : goal.invariant-loop-literal
invariant-loop-literal l = record {
  count : max l.count (variables_of (drop l.literal-index l.literals)) ≡ variables_of l.literals;
  small : l.count ≤ 2 ^ 31;
}
