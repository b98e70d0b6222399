use Rattle.varisat_steps.proofs.Broken.{error-broken, breaks-in}
use Rattle.varisat_search.proofs.loading.LoadedTrue.{permuted-delete}
use Rattle.varisat_search.proofs.load.trace_satisfied.Goals as goal

pub add_step-requires : goal.add_step-requires
add_step-requires g c = permuted-delete (g.P.ProofTracer.holds c.args.proof.now) c.args.lits.now c.sort.new.clause c.sort.ensures.moved c.requires

pub returns-in_err-add_step-clause-broken : goal.returns-in_err-add_step-clause-broken
returns-in_err-add_step-clause-broken g c =
    error-broken g.P.ProofTracer.breaks_off c.args.proof.now c.add_step.new.self c.from_residual.result c.in_err-add_step.field-0.0 c.from_residual.ensures
    (breaks-in g.P.ProofTracer.breaks_off (c.in_err-add_step.ensures {u = tt}))
