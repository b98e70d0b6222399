use Rattle.varisat_clause.proofs.MarkedClauses.{IsMarkingList}
use Rattle.varisat_clause.proofs.reduce.mark_listed.Given as goal

abbrev pub invariant-places : goal.invariant-places
invariant-places g l = IsMarkingList l.tier l.fn.alloc l.alloc l.fn.list l.list l.index l.count
