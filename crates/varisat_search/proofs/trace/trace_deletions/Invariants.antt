use Rattle.std.proofs.Common.{drop}
use Rattle.varisat_clause.specs.Stores.{stored_clauses}
use Rattle.varisat_clause.specs.Reductions.{unmarked_places}
use Rattle.varisat_steps.proofs.TracedParts.{TracesPart}
use Rattle.varisat_search.specs.Deletions.{deletion_lines}
use Rattle.varisat_search.proofs.trace.trace_deletions.Given as goal

abbrev pub invariant-clauses : goal.invariant-clauses
invariant-clauses g l = TracesPart g.P.ProofTracer.holds g.P.ProofTracer.takes
    (deletion_lines (stored_clauses l.clause_alloc) (unmarked_places (stored_clauses l.clause_alloc) l.count l.list))
    (deletion_lines (stored_clauses l.clause_alloc) (unmarked_places (stored_clauses l.clause_alloc) l.left (drop l.cref-index l.list))) l.fn.proof l.proof
