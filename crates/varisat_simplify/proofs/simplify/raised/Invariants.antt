use Rattle.std.proofs.Common.{ℕ, ◌/◌, ◌<◌, ◌≤◌, ◌^◌, get_or}
use Rattle.varisat_formula.specs.promises.Formulas.{AllBelow}
use Rattle.varisat_simplify.proofs.simplify.raised.Given as goal

abbrev pub invariant-loop-lit : goal.invariant-loop-lit
invariant-loop-lit l = record {
  below : (k : ℕ) → k < l.lit-index → get_or l.clause k 0 / 2 < l.most;
  more : l.fn.count ≤ l.most;
  least : (n : ℕ) → AllBelow n l.clause → l.fn.count ≤ n → l.most ≤ n;
  small : l.most ≤ 2 ^ 31;
}
