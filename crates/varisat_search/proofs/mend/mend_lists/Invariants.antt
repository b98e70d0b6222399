use Rattle.std.proofs.Common.{take}
use Rattle.varisat_clause.specs.Collected.{live_clauses}
use Rattle.varisat_search.specs.MendedLists.{MendsLists}
use Rattle.varisat_search.proofs.mend.mend_lists.Given as goal

abbrev pub invariant-literals : goal.invariant-literals
invariant-literals g l = MendsLists (live_clauses l.clause_alloc) (take l.place l.lits) l.fn.watchlists l.watchlists
