use Rattle.varisat_clause.specs.Collected.{live_clauses}
use Rattle.varisat_search.specs.Simplifications.{lines_of_clauses}
use Rattle.varisat_steps.proofs.Broken.{lines-broken}
use Rattle.varisat_search.proofs.trace.trace_stored.Goals as goal

pub returns-in_err-trace_clauses : goal.returns-in_err-trace_clauses
returns-in_err-trace_clauses g c =
    lines-broken g.P.ProofTracer.takes g.P.ProofTracer.breaks_off c.args.proof.now c.trace_clauses.new.proof
    (lines_of_clauses c.args.assignment.now.current (live_clauses c.args.clause_alloc.now)) c.from_residual.result
    c.in_err-trace_clauses.field-0.0 c.from_residual.ensures
    (c.in_err-trace_clauses.ensures {u = tt})
