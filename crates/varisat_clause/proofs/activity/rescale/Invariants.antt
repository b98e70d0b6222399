use Rattle.varisat_clause.specs.ClauseActivities.{activity_shifted}
use Rattle.varisat_clause.proofs.MappedClauses.{IsMapped}
use Rattle.varisat_clause.proofs.activity.rescale.Given as goal

abbrev pub invariant-clauses : goal.invariant-clauses
invariant-clauses g l = IsMapped activity_shifted l.fn.alloc l.alloc l.index
