use Rattle.std.proofs.Common.{◌≡◌, ◌≢◌, ap, ◌∙◌, subst, sym, refl}
use Rattle.varisat_names.specs.promises.Variables.{Tables}
use Rattle.varisat_search.specs.declared.context.Context.{Context}
use Rattle.varisat_search.specs.declared.error.StepError.TheVariants as step
use Rattle.varisat_search.specs.Contexts.{view}
use Rattle.varisat_search.specs.DueReductions.{BeginsStep}
use Rattle.varisat_search.specs.StepErrors.{step_error_of_trace, step_faults}
use Rattle.varisat_search.proofs.stepping.StepErrors.{trace-faults, trace-unfilled}
use Rattle.varisat_steps.specs.Traces.{TakesLines, faults_of}
use Rattle.varisat_steps.proofs.Broken.{passed-on}
use Rattle.varisat_tracer.specs.inside.Tracing.{tracer_state, TakesGlobally, BreaksProof}
use Rattle.varisat_tracer.proofs.Logging.{breaks-proof, proof-breaks-on}
use Rattle.varisat_solver.specs.inside.Searches.{turn_of}
use Rattle.varisat_solver.specs.inside.Representations.{undecided_spaces, IsValidSolver}
use Rattle.varisat_solver.proofs.steps.SinceSteps.{leaves-begun, come-begun, steps-begun}
use Rattle.varisat_solver.proofs.entries.CheckedHeld.{relied, some-on}
use Rattle.varisat_solver.proofs.steps.SolverSteps.{comes-through, unknown-undecided, some-through, begins-any, begin-count, begin-kept, begin-logged, begin-tables, begin-logs, begin-comes}
use Rattle.varisat_solver.proofs.solving.begin.Given.{Over}
use Rattle.varisat_solver.proofs.solving.begin.Goals.{In_ok-begin_step}
use Rattle.varisat_solver.proofs.solving.begin.Goals as goal

pub begin_step-requires-clause-holds : goal.begin_step-requires-clause-holds
begin_step-requires-clause-holds g c = relied c.args.tracer.now.tables c.args.tracer.now.proof
    (view c.args.ctx.now) c.args.ctx.now.assumptions c.requires.can.logs c.requires.can.represents

-- how the step began
begun : (g : Over) (c : In_ok-begin_step g) →
    BeginsStep (λ lines. TakesLines TakesGlobally (tracer_state c.args.tracer.now) lines (tracer_state c.begin_step.new.proof)) c.args.ctx.now
    c.begin_step.new.ctx
begun g c = (c.in_ok-begin_step.ensures {u = tt}).begins

kept : (g : Over) (c : In_ok-begin_step g) → IsValidSolver c.begin_step.new.proof.tables c.begin_step.new.ctx
kept g c =
    let b = begun g c in
    subst (λ (t : Tables). IsValidSolver t c.begin_step.new.ctx)
    (sym (begin-tables (tracer_state c.args.tracer.now) (tracer_state c.begin_step.new.proof) c.args.ctx.now c.begin_step.new.ctx b))
    (begin-kept c.args.ctx.now c.begin_step.new.ctx b c.requires.can.valid.ready c.args.tracer.now.tables c.requires.can.valid)

-- no step is counted yet
steps-still : (g : Over) (c : In_ok-begin_step g) → c.begin_step.new.ctx.schedule.steps ≡ c.args.ctx.now.schedule.steps
steps-still g c = ap (λ (x : Context g.row.A.Denot). x.schedule.steps) c.begin_step.ensures.frame ∙ steps-begun _ c.args.ctx.now.schedule

pub detach_fixed-requires : goal.detach_fixed-requires
detach_fixed-requires g c =
    let here = (goal.at.detach_fixed-requires g c).In_ok-begin_step in
    let p = tracer_state c.args.tracer.now in
    let q = tracer_state c.begin_step.new.proof in
    record {
      valid = kept g here;
      logs = begin-logs p q c.args.ctx.now c.begin_step.new.ctx (begun g here) c.requires.can.logs;
      represents = some-on _ 0 _ _ p.proof q.proof
          (begin-comes p q c.args.ctx.now c.begin_step.new.ctx c.requires.can.valid (steps-still g here) (begun g here)) c.requires.can.represents;
      unknown = ap (λ (x : Context g.row.A.Denot). x.solver_state.sat_state) c.begin_step.ensures.frame ∙ c.requires.can.unknown;
    }

pub returns-clause-begins : goal.returns-clause-begins
returns-clause-begins g c =
    let p = c.args.tracer.now in
    let q = c.begin_step.new.proof in
    let r = c.detach_fixed.new.tracer in
    let x = c.args.ctx.now in
    let y = c.begin_step.new.ctx in
    let z = c.detach_fixed.new.ctx in
    let b = begun g (goal.at.returns-clause-begins g c).In_ok-begin_step in
    let e = (c.in_ok-detach_fixed.ensures {u = tt}).detached in
    let count = begin-count x y b c.requires.can.valid.ready in
    let config = ap (λ (c : Context g.row.A.Denot). c.solver_config) c.begin_step.ensures.frame in
    record {
      kept = e.kept;
      logs = e.logs;
      logged = some-through p.proof q.proof r.proof (begin-logged (tracer_state p) (tracer_state q) x y b) e.logged;
      within = λ i k. e.within i x.schedule
          (come-begun _ x y c.requires.can.valid.ready c.prove_in_range.ensures.luby_restart_interval_scale c.requires.counted b config i k);
      state = c.detach_fixed.ensures.state ∙ ap (λ (c : Context g.row.A.Denot). c.solver_state) c.begin_step.ensures.frame;
      count = e.count ∙ count;
      left = record { reduced = y; begins = begins-any x y b; left = e.left };
      leaves = λ h. e.leaves (leaves-begun p.tables q.tables x y c.requires.can.valid.ready b (begin-tables (tracer_state p) (tracer_state q) x y b) h);
      calm = e.calm;
      represents = comes-through (turn_of x) p.proof q.proof r.proof (undecided_spaces p.tables p.proof.checker x)
          (undecided_spaces q.tables q.proof.checker y) (undecided_spaces r.tables r.proof.checker z)
          (unknown-undecided q.tables q.proof.checker y)
          (begin-comes (tracer_state p) (tracer_state q) x y c.requires.can.valid
          (steps-still g (goal.at.returns-clause-begins g c).In_ok-begin_step) b) (e.represents (turn_of x));
    }

pub returns-clause-schedule : goal.returns-clause-schedule
returns-clause-schedule g c = c.detach_fixed.ensures.schedule.schedule ∙ ap (λ (x : Context g.row.A.Denot). x.schedule) c.begin_step.ensures.frame

pub returns-clause-config : goal.returns-clause-config
returns-clause-config g c = c.detach_fixed.ensures.schedule.solver_config ∙ ap (λ (x : Context g.row.A.Denot). x.solver_config) c.begin_step.ensures.frame

pub returns-in_err-detach_fixed-clause-schedule : goal.returns-in_err-detach_fixed-clause-schedule
returns-in_err-detach_fixed-clause-schedule g c = c.detach_fixed.ensures.schedule.schedule
    ∙ ap (λ (x : Context g.row.A.Denot). x.schedule) c.begin_step.ensures.frame

pub returns-in_err-detach_fixed-clause-config : goal.returns-in_err-detach_fixed-clause-config
returns-in_err-detach_fixed-clause-config g c = c.detach_fixed.ensures.schedule.solver_config
    ∙ ap (λ (x : Context g.row.A.Denot). x.solver_config) c.begin_step.ensures.frame

pub returns-in_err-begin_step-clause-broken : goal.returns-in_err-begin_step-clause-broken
returns-in_err-begin_step-clause-broken g c =
    let e = c.in_err-begin_step.field-0.0 in
    let p = c.args.tracer.now in
    let q = c.begin_step.new.proof in
    passed-on c.from_residual.result (step_error_of_trace e) (λ z. BreaksProof p.proof (step_faults z) q.proof) c.from_residual.ensures
    (subst (λ n. BreaksProof p.proof n q.proof) (trace-faults e)
    (breaks-proof (tracer_state p) (tracer_state q) (faults_of e) (c.in_err-begin_step.ensures {u = tt}).broken))

pub returns-in_err-begin_step-clause-full : goal.returns-in_err-begin_step-clause-full
returns-in_err-begin_step-clause-full g c =
    let e = c.in_err-begin_step.field-0.0 in
    passed-on c.from_residual.result (step_error_of_trace e) (λ z. z ≢ step.Full) c.from_residual.ensures (trace-unfilled e)

pub returns-in_err-detach_fixed-clause-broken : goal.returns-in_err-detach_fixed-clause-broken
returns-in_err-detach_fixed-clause-broken g c =
    let e = c.in_err-detach_fixed.field-0.0 in
    let p = c.args.tracer.now in
    let q = c.begin_step.new.proof in
    let r = c.detach_fixed.new.tracer in
    let (given, logged) = begin-logged (tracer_state p) (tracer_state q) c.args.ctx.now c.begin_step.new.ctx
    (begun g (goal.at.returns-in_err-detach_fixed-clause-broken g c).In_ok-begin_step) in
    passed-on c.from_residual-in_err-detach_fixed.result e (λ z. BreaksProof p.proof (step_faults z) r.proof) c.from_residual-in_err-detach_fixed.ensures
    (proof-breaks-on p.proof q.proof r.proof given (step_faults e) logged (c.in_err-detach_fixed.ensures {u = tt}).broken)

pub returns-in_err-detach_fixed-clause-full : goal.returns-in_err-detach_fixed-clause-full
returns-in_err-detach_fixed-clause-full g c =
    let e = c.in_err-detach_fixed.field-0.0 in
    passed-on c.from_residual-in_err-detach_fixed.result e (λ z. z ≢ step.Full) c.from_residual-in_err-detach_fixed.ensures
    (c.in_err-detach_fixed.ensures {u = tt}).full
