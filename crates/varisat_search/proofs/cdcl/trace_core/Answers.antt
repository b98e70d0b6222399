use Rattle.varisat_steps.proofs.Broken.{error-broken, breaks-in}
use Rattle.varisat_search.proofs.cdcl.trace_core.Goals as goal

pub returns-in_err-add_step-clause-broken : goal.returns-in_err-add_step-clause-broken
returns-in_err-add_step-clause-broken g c =
    error-broken g.P.ProofTracer.breaks_off c.args.proof.now c.add_step.new.self c.from_residual.result c.in_err-add_step.field-0.0 c.from_residual.ensures
    (breaks-in g.P.ProofTracer.breaks_off (c.in_err-add_step.ensures {u = tt}))
