use Rattle.std.proofs.Common.{◌≡◌, drop}
use Rattle.varisat_formula.specs.promises.Values.{with_all_true}
use Rattle.varisat_formula.proofs.values.make_true.Given as goal

abbrev pub invariant-loop-lit : goal.invariant-loop-lit
invariant-loop-lit l = with_all_true (drop l.lit-index l.literals) l.values ≡ with_all_true l.literals l.fn.values
