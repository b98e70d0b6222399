use Rattle.std.proofs.Common.{◌≡◌, map, take}
use Rattle.varisat_calls.specs.Numbers.{returned_number}
use Rattle.varisat_calls.proofs.numbers.list_numbers.Given as goal

abbrev pub invariant-loop-lit : goal.invariant-loop-lit
invariant-loop-lit g l = l.returned.items ≡ map returned_number (take l.lit-index l.lits)
