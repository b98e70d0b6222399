use Rattle.std.proofs.Common.{◌-◌, length}
use Rattle.varisat_clause.specs.Collected.{live_clauses}
use Rattle.varisat_search.proofs.simplifying.MendedLists.{MendingAt}
use Rattle.varisat_search.proofs.mend.mend_list.Given as goal

abbrev pub invariant-watches : goal.invariant-watches
invariant-watches g l = MendingAt (live_clauses l.clause_alloc) l.fn.list l.list l.write l.read

abbrev pub decreases-watches : goal.decreases-watches
decreases-watches g l = length l.list - l.read
