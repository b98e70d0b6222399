use Rattle.std.proofs.Common.{◌≡◌, pos, map, take}
use Rattle.varisat_theory.specs.promises.Membership.{◌∈◌}
use Rattle.varisat_literals.specs.promises.Numbers.{literal_numbered}
use Rattle.varisat_calls.proofs.numbers.read_numbers.Given as goal

abbrev pub invariant-loop-number : goal.invariant-loop-number
invariant-loop-number g l = record {
  same : l.list.items ≡ map literal_numbered (take l.number-index l.numbers);
  absent : pos 0 ∈ take l.number-index l.numbers → ⊥;
}
