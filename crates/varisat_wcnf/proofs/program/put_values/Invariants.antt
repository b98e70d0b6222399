use Rattle.std.proofs.Common.{◌≡◌, ◌++◌, take}
use Rattle.varisat_wcnf.specs.promises.Printed.{value_digits}
use Rattle.varisat_wcnf.proofs.program.put_values.Given as goal

abbrev pub invariant-loop-value : goal.invariant-loop-value
invariant-loop-value g l = l.text.items ≡ l.fn.text.items ++ value_digits (take l.value-index l.values)
