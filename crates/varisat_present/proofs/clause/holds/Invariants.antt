use Rattle.std.proofs.Common.{take}
use Rattle.varisat_theory.specs.promises.Membership.{◌∈◌}
use Rattle.varisat_present.proofs.clause.holds.Given as goal

abbrev pub invariant-loop-l : goal.invariant-loop-l
invariant-loop-l l = l.literal ∈ take l.l-index l.literals → ⊥
