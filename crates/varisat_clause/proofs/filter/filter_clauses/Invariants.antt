use Rattle.varisat_clause.proofs.FilteredClauses.{IsFiltering}
use Rattle.varisat_clause.proofs.filter.filter_clauses.Given as goal

abbrev pub invariant-clauses : goal.invariant-clauses
invariant-clauses g l = IsFiltering g.F.ClauseFilter.leaves g.F.ClauseFilter.accepts l.fn.filter l.filter l.fn.alloc l.alloc l.db l.index
