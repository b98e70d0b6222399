use Rattle.std.proofs.Common.{◌≤◌, take}
use Rattle.varisat_theory.specs.promises.Membership.{◌∈◌}
use Rattle.varisat_maxsat.specs.declared.charge.Charge.{Charge}
use Rattle.varisat_maxsat.proofs.charge.least_weight.Given as goal

abbrev pub invariant-loop-charge : goal.invariant-loop-charge
invariant-loop-charge l = (c : Charge) → c ∈ take l.charge-index l.charges → l.least ≤ c.weight
