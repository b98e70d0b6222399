use Rattle.std.proofs.Common.{ℕ, ◌≢◌, None, get_or, take}
use Rattle.varisat_theory.specs.promises.Membership.{◌∈◌}
use Rattle.varisat_theory.specs.promises.Literals.{variable_of}
use Rattle.varisat_search.proofs.unit_simplify.has_assigned.Given as goal

abbrev pub invariant-loop-lit : goal.invariant-loop-lit
invariant-loop-lit g l = (m : ℕ) → m ∈ take l.lit-index l.lits → get_or l.assignment.current (variable_of m) None ≢ None → ⊥
