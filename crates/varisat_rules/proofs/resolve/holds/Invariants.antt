use Rattle.std.proofs.Common.{take}
use Rattle.varisat_theory.specs.promises.Membership.{◌∈◌}
use Rattle.varisat_rules.proofs.resolve.holds.Given as goal

abbrev pub invariant-loop-other : goal.invariant-loop-other
invariant-loop-other l = l.lit ∈ take l.other-index l.clause → ⊥
