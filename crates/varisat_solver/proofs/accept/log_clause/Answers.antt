use Rattle.varisat_steps.specs.declared.tracer.TraceError.{TraceError}
use Rattle.varisat_steps.specs.declared.tracer.TraceError.TheVariants as trace
use Rattle.varisat_search.specs.declared.error.StepError.TheVariants as step
use Rattle.varisat_solver.proofs.accept.log_clause.Goals as goal
use Rattle.varisat_tracer.proofs.Logging.{breaks-proof}
use Rattle.varisat_tracer.proofs.GlobalSteps.{breaks-logged-globally}
use Rattle.varisat_tracer.specs.inside.Tracing.{tracer_state, BreaksProof}
use Rattle.varisat_search.proofs.stepping.StepErrors.{trace-faults}
use Rattle.varisat_search.specs.StepErrors.{step_error_of_trace, step_faults}
use Rattle.varisat_steps.proofs.Broken.{passed-on}
use Rattle.varisat_steps.specs.Traces.{faults_of}
use Rattle.varisat_theory.specs.promises.Journals.{Accepts}
use Rattle.std.proofs.Common.{◌≡◌, ◌≢◌, [], ◌∷◌, subst}

pub returns-in_err-add_clause-clause-broken : goal.returns-in_err-add_clause-clause-broken
returns-in_err-add_clause-clause-broken g c =
    let e = c.in_err-add_clause.field-0.0 in
    let p = c.args.tracer.now in
    let q = c.add_clause.new.self in
    let entries = Accepts c.args.clause.now ∷ [] in
    passed-on c.from_residual.result (step_error_of_trace e) (λ z. BreaksProof p.proof (step_faults z) q.proof) c.from_residual.ensures
    (subst (λ n. BreaksProof p.proof n q.proof) (trace-faults e)
    (breaks-proof (tracer_state p) (tracer_state q) (faults_of e)
    (entries, breaks-logged-globally (tracer_state p) (tracer_state q) entries e (c.in_err-add_clause.ensures {u = tt}))))

-- nothing is stored
not-full : (e : TraceError) → step_error_of_trace e ≢ step.Full
not-full trace.Memory e = let z : step.Memory ≡ step.Full = e in cc
not-full (trace.Target cause) e = let z : step.Target cause ≡ step.Full = e in cc

pub returns-in_err-add_clause-clause-unstored : goal.returns-in_err-add_clause-clause-unstored
returns-in_err-add_clause-clause-unstored g c =
    let e = c.in_err-add_clause.field-0.0 in
    passed-on c.from_residual.result (step_error_of_trace e) (λ z. z ≢ step.Full) c.from_residual.ensures (not-full e)
