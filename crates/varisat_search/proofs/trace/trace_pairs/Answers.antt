use Rattle.varisat_steps.proofs.Broken.{lines-broken}
use Rattle.std.proofs.Common.{sym, subst}
use Rattle.varisat_prop.specs.View.{pairs_from}
use Rattle.varisat_steps.specs.Traces.{TakesLines, CanTake}
use Rattle.varisat_search.specs.Simplifications.{lines_of_pairs}
use Rattle.varisat_search.proofs.trace.trace_pairs.Goals as goal

pub trace_each_pair-requires-clause-able : goal.trace_each_pair-requires-clause-able
trace_each_pair-requires-clause-able g c =
    subst (λ values. CanTake (g.P.ProofTracer.holds c.args.proof.now) (lines_of_pairs values (pairs_from 0 c.args.binary_clauses.now)))
    (sym c.assignment.ensures) c.requires.able

pub returns : goal.returns
returns g c =
    subst (λ values. TakesLines g.P.ProofTracer.takes c.args.proof.now
    (lines_of_pairs values (pairs_from 0 c.args.binary_clauses.now)) c.trace_each_pair.new.proof) c.assignment.ensures
    (c.in_ok-trace_each_pair.ensures {u = tt})

pub returns-in_err-trace_each_pair : goal.returns-in_err-trace_each_pair
returns-in_err-trace_each_pair g c =
    lines-broken g.P.ProofTracer.takes g.P.ProofTracer.breaks_off c.args.proof.now c.trace_each_pair.new.proof
    (lines_of_pairs c.args.assignment.now.current (pairs_from 0 c.args.binary_clauses.now)) c.from_residual.result
    c.in_err-trace_each_pair.field-0.0 c.from_residual.ensures
    (c.in_err-trace_each_pair.ensures {u = tt})
