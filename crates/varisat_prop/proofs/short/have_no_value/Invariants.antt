use Rattle.std.proofs.Common.{◌≡◌, ℕ, true, take}
use Rattle.varisat_theory.specs.promises.Membership.{◌∈◌}
use Rattle.varisat_prop.specs.Simplified.{is_unassigned}
use Rattle.varisat_prop.proofs.short.have_no_value.Given as goal

abbrev pub invariant-loop-lit : goal.invariant-loop-lit
invariant-loop-lit l = (m : ℕ) → m ∈ take l.lit-index l.lits → is_unassigned l.values m ≡ true
