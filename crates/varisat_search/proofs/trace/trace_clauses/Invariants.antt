use Rattle.varisat_clause.specs.Stores.{stored_clauses}
use Rattle.varisat_steps.proofs.TracedLists.{TracesTo}
use Rattle.varisat_search.proofs.simplifying.TracedClauses.{stored_lines}
use Rattle.varisat_search.proofs.trace.trace_clauses.Given as goal

abbrev pub invariant-clauses : goal.invariant-clauses
invariant-clauses g l = TracesTo g.P.ProofTracer.holds g.P.ProofTracer.takes (stored_lines l.assignment.current)
    (stored_clauses l.clause_alloc) l.index l.fn.proof l.proof
