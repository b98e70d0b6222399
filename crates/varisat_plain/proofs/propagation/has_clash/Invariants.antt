use Rattle.std.proofs.Common.{ℕ, take}
use Rattle.varisat_theory.specs.promises.Literals.{opposite}
use Rattle.varisat_theory.specs.promises.Membership.{◌∈◌}
use Rattle.varisat_plain.proofs.propagation.has_clash.Given as goal

abbrev pub invariant-loop-l : goal.invariant-loop-l
invariant-loop-l l = (x : ℕ) → x ∈ take l.l-index l.known → opposite x ∈ l.known → ⊥
