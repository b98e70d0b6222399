use Rattle.std.proofs.Common.{◌≡◌, take}
use Rattle.varisat_solver.specs.inside.Detached.{unassumed_among}
use Rattle.varisat_solver.proofs.detaching.list_unassumed.Given as goal

abbrev pub invariant-loop-lit : goal.invariant-loop-lit
invariant-loop-lit g l = l.unassumed.items ≡ unassumed_among l.variables (take l.lit-index l.lits)
