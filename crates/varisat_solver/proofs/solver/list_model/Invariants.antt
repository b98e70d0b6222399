use Rattle.std.proofs.Common.{◌≡◌}
use Rattle.varisat_solver.specs.inside.Representations.{list_tables}
use Rattle.varisat_solver.proofs.solver.list_model.Given as goal

abbrev pub invariant-loop-index : goal.invariant-loop-index
invariant-loop-index g l = l.list.items ≡ list_tables l.variables l.values 0 l.index
