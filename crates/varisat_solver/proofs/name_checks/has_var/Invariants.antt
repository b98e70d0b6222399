use Rattle.std.proofs.Common.{◌≢◌, take}
use Rattle.varisat_theory.specs.promises.Membership.{◌∈◌}
use Rattle.varisat_theory.specs.promises.Literals.{Literal, variable_of}
use Rattle.varisat_solver.proofs.name_checks.has_var.Given as goal

abbrev pub invariant-loop-lit : goal.invariant-loop-lit
invariant-loop-lit l = (m : Literal) → m ∈ take l.lit-index l.clause → variable_of m ≢ l.var
