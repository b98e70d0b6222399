use Rattle.varisat_solver.proofs.leaving.DetachedLists.{ListsBelow}
use Rattle.varisat_solver.proofs.detaching.list_unneeded.Given as goal

abbrev pub invariant-loop-index : goal.invariant-loop-index
invariant-loop-index g l = ListsBelow l.index l.variables l.mentioned l.unneeded.items
