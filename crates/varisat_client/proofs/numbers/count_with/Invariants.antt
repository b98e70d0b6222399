use Rattle.std.proofs.Common.{◌≡◌, ◌≤◌, ◌^◌, max, drop}
use Rattle.varisat_formula.specs.promises.Formulas.{variables_of}
use Rattle.varisat_client.proofs.numbers.count_with.Given as goal

abbrev pub invariant-loop-lit : goal.invariant-loop-lit
invariant-loop-lit l = record {
  count : max l.most (variables_of (drop l.lit-index l.lits)) ≡ max l.fn.count (variables_of l.lits);
  small : l.most ≤ 2 ^ 31;
}
