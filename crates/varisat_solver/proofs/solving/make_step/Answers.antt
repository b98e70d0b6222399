use Rattle.std.proofs.Common.{◌≡◌, ◌<◌, ap, ◌∙◌, sym, subst, refl}
use Rattle.varisat_schedule.specs.Plans.{Plan, next_plan}
use Rattle.varisat_names.specs.promises.Settings.{Settings}
use Rattle.varisat_search.specs.declared.state.SolverState.{SolverState}
use Rattle.varisat_search.specs.StepErrors.{step_faults}
use Rattle.varisat_steps.proofs.Broken.{passed-on, on-error}
use Rattle.varisat_tracer.specs.inside.Tracing.{tracer_state}
use Rattle.varisat_tracer.proofs.Logging.{proof-breaks-on, logs-on}
use Rattle.varisat_solver.specs.inside.Searches.{turn_of, FailsStep, BeginsSolverStep, MakesNamedStep}
use Rattle.varisat_solver.specs.inside.Representations.{undecided_spaces, spaces_with}
use Rattle.varisat_solver.proofs.steps.SinceSteps.{leaves-stepped, come-ended, steps-begun, step-ended}
use Rattle.varisat_solver.proofs.entries.CheckedHeld.{some-on}
use Rattle.varisat_solver.proofs.steps.SearchVerdicts.{ready-counted, named-counted, kept-named, kept-counted}
use Rattle.varisat_solver.proofs.steps.SolverSteps.{later, comes-one-more, unknown-undecided, some-through, named-comes}
use Rattle.varisat_solver.proofs.solving.make_step.Given.{Over}
use Rattle.varisat_solver.proofs.solving.make_step.Goals.{In_ok-begin, In_ok-named_conflict_step}
use Rattle.varisat_solver.proofs.solving.make_step.Goals as goal

-- how the step began
begun : (g : Over) (c : In_ok-begin g) → BeginsSolverStep (tracer_state c.args.tracer.now) (tracer_state c.begin.new.tracer) c.args.ctx.now c.begin.new.ctx
begun g c = (c.in_ok-begin.ensures {u = tt}).begins

-- and what came of it
named : (g : Over) (c : In_ok-named_conflict_step g) → MakesNamedStep (tracer_state c.begin.new.tracer)
    (tracer_state c.named_conflict_step.new.tracer) c.begin.new.ctx c.named_conflict_step.new.ctx
named g c = (c.in_ok-named_conflict_step.ensures {u = tt}).made

pub named_conflict_step-requires : goal.named_conflict_step-requires
named_conflict_step-requires g c =
    let b = begun g (goal.at.named_conflict_step-requires g c).In_ok-begin in
    record {
      valid = b.kept;
      logs = b.logs;
      represents = some-on _ 0 _ _ c.args.tracer.now.proof c.begin.new.tracer.proof b.represents c.requires.can.represents;
      unknown = ap (λ (s : SolverState). s.sat_state) b.state ∙ c.requires.can.unknown;
    }

pub returns-clause-made : goal.returns-clause-made
returns-clause-made g c =
    let p = c.args.tracer.now in
    let q = c.begin.new.tracer in
    let r = c.named_conflict_step.new.tracer in
    let x = c.args.ctx.now in
    let y = c.begin.new.ctx in
    let z = c.named_conflict_step.new.ctx in
    let plan : Plan = c.end_step.new.self in
    let b = begun g (goal.at.returns-clause-made g c).In_ok-begin in
    let m = named g (goal.at.returns-clause-made g c).In_ok-named_conflict_step in
    let (lines, steps, learns, takes) = m.steps in
    let same = c.named_conflict_step.ensures.schedule in
    record {
      mid = tracer_state q;
      middle = y;
      begins = b;
      ends = named-counted (tracer_state q) (tracer_state r) y z y.schedule m;
      kept = kept-counted r.tables z plan (kept-named (tracer_state q) (tracer_state r) y z b.kept m);
      logs = logs-on (tracer_state q) (tracer_state r) _ takes b.logs;
      logged = some-through p.proof q.proof r.proof b.logged (_, takes.logged);
      since = λ u i k.
          come-ended i x.schedule y (record z { schedule = plan }) b.kept.ready (ready-counted z plan m.ready) (m.rises u)
          (step-ended _ x.schedule z.schedule plan (same.schedule ∙ c.begin.ensures.schedule) c.end_step.ensures
          ∙ ap (λ (s : Settings). next_plan s.luby_restart_interval_scale x.schedule) (sym c.begin.ensures.config))
          same.solver_config m.count m.decidable (b.within i k);
      schedule = step-ended _ x.schedule z.schedule plan (same.schedule ∙ c.begin.ensures.schedule) c.end_step.ensures;
      state = m.state ∙ ap (λ (s : SolverState). record s { sat_state = z.solver_state.sat_state }) b.state;
      count = m.count ∙ b.count;
      leaves = λ h n. leaves-stepped q.tables r.tables y z m.tables m.fixes (b.leaves h) n;
      represents = comes-one-more (turn_of x) 0 1 p.proof q.proof r.proof (undecided_spaces p.tables p.proof.checker x)
          (undecided_spaces q.tables q.proof.checker y) (spaces_with r.tables r.proof.checker (record z { schedule = plan })) refl
          (unknown-undecided q.tables q.proof.checker y)
          b.represents (named-comes (tracer_state q) (tracer_state r) y z b.kept m b.calm (later 0 (turn_of x)));
    }

pub returns-clause-config : goal.returns-clause-config
returns-clause-config g c = c.named_conflict_step.ensures.schedule.solver_config ∙ c.begin.ensures.config

pub end_step-requires : goal.end_step-requires
end_step-requires g c = subst (λ (p : Plan). p.steps < p.next_restart) (sym c.named_conflict_step.ensures.schedule.schedule) c.begin.ensures.later

pub returns-in_err-begin-clause-uncounted : goal.returns-in_err-begin-clause-uncounted
returns-in_err-begin-clause-uncounted g c = on-error c.from_residual.result _
    (ap (λ (p : Plan). p.steps) c.begin.ensures.schedule ∙ steps-begun _ c.args.ctx.now.schedule)

pub returns-in_err-begin-clause-fails : goal.returns-in_err-begin-clause-fails
returns-in_err-begin-clause-fails g c =
    let e = c.in_err-begin.field-0.0 in
    let p = c.args.tracer.now.proof in
    let q = c.begin.new.tracer.proof in
    let x = c.args.ctx.now in
    let y = c.begin.new.ctx in
    let fails : FailsStep p q x y e = record {
      broken = (c.in_err-begin.ensures {u = tt}).broken;
      full = λ f. absurd ((c.in_err-begin.ensures {u = tt}).full f);
    } in
    passed-on c.from_residual.result e (λ z. FailsStep p q x y z) c.from_residual.ensures fails

pub returns-in_err-named_conflict_step-clause-uncounted : goal.returns-in_err-named_conflict_step-clause-uncounted
returns-in_err-named_conflict_step-clause-uncounted g c =
    on-error c.from_residual-in_err-named_conflict_step.result _
    (ap (λ (p : Plan). p.steps) (c.named_conflict_step.ensures.schedule.schedule ∙ c.begin.ensures.schedule) ∙ steps-begun _ c.args.ctx.now.schedule)

pub returns-in_err-named_conflict_step-clause-config : goal.returns-in_err-named_conflict_step-clause-config
returns-in_err-named_conflict_step-clause-config g c = c.named_conflict_step.ensures.schedule.solver_config ∙ c.begin.ensures.config

pub returns-in_err-named_conflict_step-clause-fails : goal.returns-in_err-named_conflict_step-clause-fails
returns-in_err-named_conflict_step-clause-fails g c =
    let e = c.in_err-named_conflict_step.field-0.0 in
    let p = c.args.tracer.now.proof in
    let q = c.begin.new.tracer.proof in
    let r = c.named_conflict_step.new.tracer.proof in
    let x = c.args.ctx.now in
    let z = c.named_conflict_step.new.ctx in
    let b = begun g (goal.at.returns-in_err-named_conflict_step-clause-fails g c).In_ok-begin in
    let (given, logged) = b.logged in
    let failed = (c.in_err-named_conflict_step.ensures {u = tt}).fails in
    let fails : FailsStep p r x z e = record {
      broken = proof-breaks-on p q r given (step_faults e) logged failed.broken;
      full = λ f. let (room, same) = failed.full f in (room, same ∙ b.count);
    } in
    passed-on c.from_residual-in_err-named_conflict_step.result e (λ w. FailsStep p r x z w) c.from_residual-in_err-named_conflict_step.ensures fails
