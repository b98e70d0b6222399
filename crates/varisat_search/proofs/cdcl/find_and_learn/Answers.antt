use Rattle.varisat_steps.proofs.Broken.{breaks-not}
use Rattle.varisat_search.proofs.stepping.StepErrors.{ends-unfilled, ends-after, memory-unfilled, trace-unfilled, memory-broken, trace-broken, step-passed, model-steps}
use Rattle.varisat_search.proofs.stepping.Frames.{schedule-through}
use Rattle.varisat_search.specs.StepErrors.{step_error_of_trace}
use Rattle.std.proofs.Common.{◌≡◌, ◌∙◌, MatchResult, List, inl, inr, ⊎_elim, sym, subst}
use Rattle.varisat_theory.specs.promises.Literals.{Clause}
use Rattle.varisat_theory.specs.promises.Propagation.{IsComplete, Conflicts}
use Rattle.varisat_prop.specs.View.{kept}
use Rattle.varisat_search.specs.declared.error.StepError.TheVariants as step
use Rattle.varisat_search.specs.declared.state.SatState.TheVariants as verdict
use Rattle.varisat_search.specs.AssumptionParts.{EndsAssumed}
use Rattle.varisat_search.specs.Contexts.{view}
use Rattle.varisat_search.specs.Conflicts.{Stops}
use Rattle.varisat_search.specs.Progress.{AddOne, AddOneIfUnknown}
use Rattle.varisat_search.proofs.assuming.AssumptionOutcomes.{error-is, core-steps, keeps-model, keeps-core}
use Rattle.varisat_search.proofs.stepping.MadeSteps.{Finds, made-are, no-core-entry, learned-no-core, made-ended, made-learned}
use Rattle.varisat_search.specs.Seen.{search_of, outcome_of}
use Rattle.varisat_steps.proofs.Traced.{step-lines, holds_still}
use Rattle.varisat_search.proofs.stepping.StepWithoutLines.{grows_prove}
use Rattle.varisat_search.proofs.cdcl.find_and_learn.Given.{Over}
use Rattle.varisat_search.proofs.cdcl.find_and_learn.Goals.{In_ok-find_conflict}
use Rattle.varisat_search.proofs.cdcl.find_and_learn.Goals as goal
use Rattle.varisat_steps.specs.Traces.{TakesLines, TakesStep, AdmitsFor}

finds : (g : Over) (c : In_ok-find_conflict g) → Finds c.args.ctx.now c.find_conflict.new.ctx
finds g c =
    let e = c.in_ok-find_conflict.ensures in
    record {
      ready = e.ready;
      grows = e.grows;
      taken = e.taken;
      forward = e.goes.forward;
    }

pub returns-in-Ok-clause-made : goal.returns-in-Ok-clause-made
returns-in-Ok-clause-made g c =
    let x = c.args.ctx.now in
    let y = c.find_conflict.new.ctx in
    let m = c.in_ok-find_conflict.ensures in
    let a = subst (λ r. MatchResult r (λ _. IsComplete (kept (view y)) y.trail.literals × EndsAssumed (view y) y.assumptions)
    (λ f. Stops (view y) y.assumptions f)) c.in-Ok.is m.found in
    made-ended x y c.requires.ready (finds g (goal.at.returns-in-Ok-clause-made g c).In_ok-find_conflict) verdict.Sat
    (λ lines. (verdict.Sat ≡ verdict.Unknown → AddOne lines) × TakesStep g.P.ProofTracer.takes c.args.proof.now lines
    (outcome_of (view y) y.assumptions.failed_core verdict.Sat) c.args.proof.now)
    (λ e. absurd cc, g.met.P.ProofTracer.takes_none c.args.proof.now) (λ e. absurd cc)
    (model-steps (view y) m.ready.well a.0 a.1.0)
    (keeps-model (view x) (view y) x.assumptions y.assumptions c.requires.ready.well m.ready.well m.taken m.ready.assumed a.1.1)

pub returns-in_ok-trace_core-in-Err-Assumption-clause-made : goal.returns-in_ok-trace_core-in-Err-Assumption-clause-made
returns-in_ok-trace_core-in-Err-Assumption-clause-made g c =
    let x = c.args.ctx.now in
    let y = c.find_conflict.new.ctx in
    let m = c.in_ok-find_conflict.ensures in
    let b = error-is (IsComplete (kept (view y)) y.trail.literals × EndsAssumed (view y) y.assumptions)
    (Stops (view y) y.assumptions) c.in-Err-Assumption.is c.in-Err-Assumption.field-0-is m.found in
    made-ended x y c.requires.ready (finds g (goal.at.returns-in_ok-trace_core-in-Err-Assumption-clause-made g c).In_ok-find_conflict)
    verdict.UnsatUnderAssumptions (λ lines. (verdict.UnsatUnderAssumptions ≡ verdict.Unknown → AddOne lines) × TakesStep g.P.ProofTracer.takes
    c.args.proof.now lines (outcome_of (view y) y.assumptions.failed_core verdict.UnsatUnderAssumptions) c.trace_core.new.proof)
    (λ e. absurd cc, (c.in_ok-trace_core-in-Err-Assumption.ensures {u = tt}).taken) (λ e. absurd cc)
    (core-steps (view y) y.assumptions m.ready.well b)
    (keeps-core (view x) (view y) x.assumptions y.assumptions c.requires.ready.well m.taken b)

pub returns-in_ok-learn_from_conflict-in-Err-Conflict-clause-made : goal.returns-in_ok-learn_from_conflict-in-Err-Conflict-clause-made
returns-in_ok-learn_from_conflict-in-Err-Conflict-clause-made g c =
    let here = (goal.at.returns-in_ok-learn_from_conflict-in-Err-Conflict-clause-made g c).In_ok-find_conflict in
    let e = c.in_ok-learn_from_conflict-in-Err-Conflict.ensures.learned in
    let z = c.learn_from_conflict.new.ctx in
    let v = outcome_of (view z) z.assumptions.failed_core z.solver_state.sat_state in
    made-are c.args.ctx.now z (λ lines. AddOne lines × TakesLines g.P.ProofTracer.takes c.args.proof.now lines c.learn_from_conflict.new.proof)
    (λ lines. AddOneIfUnknown lines z × TakesStep g.P.ProofTracer.takes c.args.proof.now lines v c.learn_from_conflict.new.proof)
    (λ lines (o, h). (
      λ u. o,
      step-lines g.P.ProofTracer.takes c.args.proof.now c.learn_from_conflict.new.proof lines v
          (no-core-entry (view z) z.assumptions.failed_core z.solver_state.sat_state e.further.known) h,
    ))
    (made-learned c.args.ctx.now c.find_conflict.new.ctx c.requires.ready (finds g here) z
    (λ lines. AddOne lines × TakesLines g.P.ProofTracer.takes c.args.proof.now lines c.learn_from_conflict.new.proof) e.further e.last)

pub returns-in_ok-trace_core-in-Err-Assumption-clause-core : goal.returns-in_ok-trace_core-in-Err-Assumption-clause-core
returns-in_ok-trace_core-in-Err-Assumption-clause-core g c u =
    let y = c.find_conflict.new.ctx in
    error-is (IsComplete (kept (view y)) y.trail.literals × EndsAssumed (view y) y.assumptions)
    (Stops (view y) y.assumptions) c.in-Err-Assumption.is c.in-Err-Assumption.field-0-is
    c.in_ok-find_conflict.ensures.found

pub returns-in_ok-learn_from_conflict-in-Err-Conflict-clause-core : goal.returns-in_ok-learn_from_conflict-in-Err-Conflict-clause-core
returns-in_ok-learn_from_conflict-in-Err-Conflict-clause-core g c u =
    absurd (learned-no-core c.learn_from_conflict.new.ctx.solver_state.sat_state c.in_ok-learn_from_conflict-in-Err-Conflict.ensures.learned.further.known u)

pub returns-in-Ok-clause-fixed : goal.returns-in-Ok-clause-fixed
returns-in-Ok-clause-fixed g c calm n = inl (c.in_ok-find_conflict.ensures.fixed calm).0

pub returns-in_ok-trace_core-in-Err-Assumption-clause-fixed : goal.returns-in_ok-trace_core-in-Err-Assumption-clause-fixed
returns-in_ok-trace_core-in-Err-Assumption-clause-fixed g c calm n = inl (c.in_ok-find_conflict.ensures.fixed calm).0

pub returns-in_ok-learn_from_conflict-in-Err-Conflict-clause-fixed : goal.returns-in_ok-learn_from_conflict-in-Err-Conflict-clause-fixed
returns-in_ok-learn_from_conflict-in-Err-Conflict-clause-fixed g c calm n =
    ⊎_elim (λ e. inl (e ∙ (c.in_ok-find_conflict.ensures.fixed calm).0)) inr (c.in_ok-learn_from_conflict-in-Err-Conflict.ensures.learned.fixed n).1

-- what the tracer may hold fits the search after propagation and decisions
holds : (g : Over) (c : In_ok-find_conflict g) → AdmitsFor (g.P.ProofTracer.holds c.args.proof.now) (search_of (view c.find_conflict.new.ctx))
holds g c =
    let x = c.args.ctx.now in
    let y = c.find_conflict.new.ctx in
    let m = c.in_ok-find_conflict.ensures in
    holds_still (g.P.ProofTracer.holds c.args.proof.now) 0 (search_of (view x)) (search_of (view y)) c.requires.holds
    (grows_prove (view x) (view y) c.requires.ready.well m.ready.well m.grows)

pub learn_from_conflict-requires-clause-holds : goal.learn_from_conflict-requires-clause-holds
learn_from_conflict-requires-clause-holds g c = holds g (goal.at.learn_from_conflict-requires-clause-holds g c).In_ok-find_conflict

pub trace_core-requires : goal.trace_core-requires
trace_core-requires g c =
    let y = c.find_conflict.new.ctx in
    let m = c.in_ok-find_conflict.ensures in
    let b = error-is (IsComplete (kept (view y)) y.trail.literals × EndsAssumed (view y) y.assumptions)
    (Stops (view y) y.assumptions) c.in-Err-Assumption.is c.in-Err-Assumption.field-0-is m.found in
    let (held, h, f) = holds g (goal.at.trace_core-requires g c).In_ok-find_conflict in
    let (after, d, i, n) = (core-steps (view y) y.assumptions m.ready.well b).holds held f in
    (held, h, subst (λ (P : List Clause). Conflicts P y.assumptions.failed_core) (sym d) i.1)

pub returns-in_err-find_conflict-clause-broken : goal.returns-in_err-find_conflict-clause-broken
returns-in_err-find_conflict-clause-broken g c =
    memory-broken g.P.ProofTracer.breaks_off c.args.proof.now c.args.proof.now c.from_residual.result c.from_residual.ensures
    (breaks-not g.P.ProofTracer.breaks_off g.met.P.ProofTracer.breaks_none c.args.proof.now)

pub returns-in_err-trace_core-in-Err-Assumption-clause-broken : goal.returns-in_err-trace_core-in-Err-Assumption-clause-broken
returns-in_err-trace_core-in-Err-Assumption-clause-broken g c =
    trace-broken g.P.ProofTracer.breaks_off c.args.proof.now c.trace_core.new.proof c.from_residual-in_err-trace_core-in-Err-Assumption.result
    c.in_err-trace_core-in-Err-Assumption.field-0.0 c.from_residual-in_err-trace_core-in-Err-Assumption.ensures
    c.in_err-trace_core-in-Err-Assumption.ensures.broken

pub returns-in-Ok-clause-ends : goal.returns-in-Ok-clause-ends
returns-in-Ok-clause-ends g c =
    let k = c.find_conflict.ensures.goes.schedule in
    record { schedule = record { schedule = k.schedule; solver_config = k.solver_config }; full = tt }

pub returns-in_ok-trace_core-in-Err-Assumption-clause-ends : goal.returns-in_ok-trace_core-in-Err-Assumption-clause-ends
returns-in_ok-trace_core-in-Err-Assumption-clause-ends g c =
    let k = c.find_conflict.ensures.goes.schedule in
    record { schedule = record { schedule = k.schedule; solver_config = k.solver_config }; full = tt }

pub returns-in_ok-learn_from_conflict-in-Err-Conflict-clause-ends : goal.returns-in_ok-learn_from_conflict-in-Err-Conflict-clause-ends
returns-in_ok-learn_from_conflict-in-Err-Conflict-clause-ends g c =
    record { schedule = schedule-through c.find_conflict.ensures.goes.schedule c.learn_from_conflict.ensures.ends.schedule; full = tt }

pub returns-in_err-find_conflict-clause-ends : goal.returns-in_err-find_conflict-clause-ends
returns-in_err-find_conflict-clause-ends g c =
    ends-unfilled c.from_residual.result step.Memory c.from_residual.ensures memory-unfilled c.find_conflict.ensures.goes.schedule

pub returns-in_err-trace_core-in-Err-Assumption-clause-ends : goal.returns-in_err-trace_core-in-Err-Assumption-clause-ends
returns-in_err-trace_core-in-Err-Assumption-clause-ends g c =
    let e = c.in_err-trace_core-in-Err-Assumption.field-0.0 in
    ends-unfilled c.from_residual-in_err-trace_core-in-Err-Assumption.result (step_error_of_trace e)
    c.from_residual-in_err-trace_core-in-Err-Assumption.ensures (trace-unfilled e) c.find_conflict.ensures.goes.schedule

pub returns-in_err-learn_from_conflict-in-Err-Conflict-clause-ends : goal.returns-in_err-learn_from_conflict-in-Err-Conflict-clause-ends
returns-in_err-learn_from_conflict-in-Err-Conflict-clause-ends g c =
    ends-after c.from_residual-in_err-learn_from_conflict-in-Err-Conflict.result c.in_err-learn_from_conflict-in-Err-Conflict.field-0.0
    c.from_residual-in_err-learn_from_conflict-in-Err-Conflict.ensures c.find_conflict.ensures.goes.schedule
    c.in_ok-find_conflict.ensures.grows.count c.in_err-learn_from_conflict-in-Err-Conflict.ensures.ends

pub returns-in_err-learn_from_conflict-in-Err-Conflict-clause-broken : goal.returns-in_err-learn_from_conflict-in-Err-Conflict-clause-broken
returns-in_err-learn_from_conflict-in-Err-Conflict-clause-broken g c =
    step-passed g.P.ProofTracer.breaks_off c.args.proof.now c.learn_from_conflict.new.proof c.from_residual-in_err-learn_from_conflict-in-Err-Conflict.result
    c.in_err-learn_from_conflict-in-Err-Conflict.field-0.0 c.from_residual-in_err-learn_from_conflict-in-Err-Conflict.ensures
    c.in_err-learn_from_conflict-in-Err-Conflict.ensures.broken
