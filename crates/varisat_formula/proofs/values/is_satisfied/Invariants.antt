use Rattle.std.proofs.Common.{◌≡◌, false, take}
use Rattle.std.specs.List.{list_any}
use Rattle.varisat_theory.specs.promises.Literals.{value}
use Rattle.varisat_formula.specs.promises.Values.{assignment_of}
use Rattle.varisat_formula.proofs.values.is_satisfied.Given as goal

abbrev pub invariant-loop-lit : goal.invariant-loop-lit
invariant-loop-lit l = list_any (value (assignment_of l.values)) (take l.lit-index l.clause) ≡ false
