use Rattle.std.proofs.Common.{◌≡◌, true, map, take}
use Rattle.varisat_theory.specs.promises.Literals.{literal_of}
use Rattle.varisat_calls.specs.Numbers.{returned_number}
use Rattle.varisat_calls.proofs.numbers.list_names.Given as goal

abbrev pub invariant-loop-var : goal.invariant-loop-var
invariant-loop-var g l = l.returned.items ≡ map (λ u. returned_number (literal_of u true)) (take l.var-index l.vars)
