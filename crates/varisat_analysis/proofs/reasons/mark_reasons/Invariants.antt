use Rattle.varisat_clause.specs.Databases.{Database, Tracks}
use Rattle.varisat_clause.proofs.MappedClauses.{IsMapped}
use Rattle.varisat_analysis.specs.Reductions.{reason_marked}
use Rattle.varisat_analysis.proofs.reasons.mark_reasons.Given as goal

abbrev pub invariant-clauses : goal.invariant-clauses
invariant-clauses g l = record {
  state : IsMapped (reason_marked l.assignment.current l.impl_graph.nodes.items) l.fn.clause_alloc l.clause_alloc l.index;
  tracks : (d : Database) → Tracks d l.fn.clause_alloc → Tracks d l.clause_alloc;
}
