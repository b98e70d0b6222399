use Rattle.std.proofs.Common.{ℕ, take}
use Rattle.varisat_theory.specs.promises.Membership.{◌∈◌}
use Rattle.varisat_theory.specs.promises.Literals.{opposite}
use Rattle.varisat_prop.specs.Parts.{IsMadeTrue}
use Rattle.varisat_search.proofs.load.has_false.Given as goal

abbrev pub invariant-loop-lit : goal.invariant-loop-lit
invariant-loop-lit g l = (m : ℕ) → m ∈ take l.lit-index l.lits → IsMadeTrue l.assignment.current (opposite m) → ⊥
