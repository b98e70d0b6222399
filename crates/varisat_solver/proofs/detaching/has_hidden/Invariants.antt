use Rattle.std.proofs.Common.{◌≡◌, ℕ, ◌<◌, false}
use Rattle.varisat_names.specs.promises.VarMap.{at}
use Rattle.varisat_solver.specs.inside.Detached.{leads_to_hidden}
use Rattle.varisat_solver.proofs.detaching.has_hidden.Given as goal

abbrev pub invariant-loop-index : goal.invariant-loop-index
invariant-loop-index g l = (v : ℕ) → v < l.index → leads_to_hidden l.variables (at l.variables.solvers.backward v) ≡ false
