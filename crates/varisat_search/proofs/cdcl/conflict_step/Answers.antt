use Rattle.varisat_steps.proofs.Broken.{breaks-on}
use Rattle.varisat_search.proofs.stepping.StepErrors.{ends-unfilled, ends-after, trace-unfilled, trace-broken, step-passed}
use Rattle.varisat_search.proofs.stepping.Frames.{schedule-through}
use Rattle.varisat_search.specs.StepErrors.{step_error_of_trace}
use Rattle.varisat_search.specs.Frames.{ChangesRootSimplified}
use Rattle.std.proofs.Common.{◌≡◌, ◌∙◌, Ok, Err, List, [], ◌++◌, ⊎_elim, length, refl, sym, ap, subst, arith}
use Rattle.varisat_theory.specs.promises.Derivations.{Line}
use Rattle.varisat_theory.specs.inside.Outcomes.{Steps}
use Rattle.varisat_search.specs.declared.context.Context.{Context}
use Rattle.varisat_search.specs.Progress.{outcome_at, AddOne, AddOneIfUnknown, MakesStep}
use Rattle.varisat_search.specs.declared.state.SatState.TheVariants as verdict
use Rattle.varisat_search.specs.RootSimplified.{IsRootUnpropagated, KeepsFixed, SimplifiesRoot, SimplifiesRootFirst, LearnsAlone}
use Rattle.varisat_search.specs.Contexts.{view, KeepsSchedule}
use Rattle.varisat_search.specs.Seen.{search_of}
use Rattle.varisat_search.proofs.stepping.MadeSteps.{made-are, made-with, no-core-entry, learned-no-core, made-settled, made-at-once}
use Rattle.varisat_steps.specs.Traces.{TakesLines, TakesStep, AdmitsFor}
use Rattle.varisat_steps.proofs.Traced.{step-lines, step-more, holds_on}
use Rattle.varisat_search.proofs.cdcl.conflict_step.Given.{Over}
use Rattle.varisat_search.proofs.cdcl.conflict_step.Goals.{In_ok-simplify_root_if_unpropagated}
use Rattle.varisat_search.proofs.cdcl.conflict_step.Goals as goal

-- what the tracer may hold fits the search once the root level is simplified
holds : (g : Over) (c : In_ok-simplify_root_if_unpropagated g) → AdmitsFor (g.P.ProofTracer.holds c.simplify_root_if_unpropagated.new.proof) (search_of (view c.simplify_root_if_unpropagated.new.ctx))
holds g c =
    let (lines, p, (s, o, t)) = c.in_ok-simplify_root_if_unpropagated.ensures.goes_on.proves in
    holds_on g.P.ProofTracer.holds g.P.ProofTracer.takes g.met.P.ProofTracer.holds_after c.args.proof.now c.simplify_root_if_unpropagated.new.proof 0
    (search_of (view c.args.ctx.now)) (search_of (view c.simplify_root_if_unpropagated.new.ctx)) lines c.requires.holds p t

pub find_and_learn-requires-clause-holds : goal.find_and_learn-requires-clause-holds
find_and_learn-requires-clause-holds g c = holds g (goal.at.find_and_learn-requires-clause-holds g c).In_ok-simplify_root_if_unpropagated

pub learn_from_conflict-requires-clause-holds : goal.learn_from_conflict-requires-clause-holds
learn_from_conflict-requires-clause-holds g c = holds g (goal.at.learn_from_conflict-requires-clause-holds g c).In_ok-simplify_root_if_unpropagated

-- the root level is simplified, and a step is made from there
after : (g : Over) (c : In_ok-simplify_root_if_unpropagated g) (z : Context g.row.A.Denot) (p2 : g.row.P.Denot) →
    MakesStep (λ lines. AddOneIfUnknown lines z × TakesStep g.P.ProofTracer.takes c.simplify_root_if_unpropagated.new.proof lines (outcome_at z) p2)
    c.simplify_root_if_unpropagated.new.ctx z →
    MakesStep (λ lines. SimplifiesRootFirst lines c.args.ctx.now z × LearnsAlone lines c.args.ctx.now z
    × TakesStep g.P.ProofTracer.takes c.args.proof.now lines (outcome_at z) p2) c.args.ctx.now z
after g c z p2 m =
    let takes = g.P.ProofTracer.takes in
    let x = c.args.ctx.now in
    let y = c.simplify_root_if_unpropagated.new.ctx in
    let p0 = c.args.proof.now in
    let p1 = c.simplify_root_if_unpropagated.new.proof in
    let v = outcome_at z in
    let end = c.in_ok-simplify_root_if_unpropagated.field-0 in
    made-settled x y z
    (λ lines. (IsRootUnpropagated (view x) → SimplifiesRoot lines (view x) (view y) end) × ((IsRootUnpropagated (view x) → ⊥) → lines ≡ []) × TakesLines takes p0 lines p1)
    (λ lines. Steps (search_of (view y)) (search_of (view z)) v lines × (AddOneIfUnknown lines z × TakesStep takes p1 lines v p2))
    (λ lines. SimplifiesRootFirst lines x z × LearnsAlone lines x z × TakesStep takes p0 lines v p2)
    (λ first more (s, o, i) (p, (a, j)). (
      (λ u.
          record { settled = y; end = end; first = first; rest = more; parts = refl; simplifies_root = s u; steps = (more, p, refl) }),
      (λ calm u. subst (λ (ls : List Line). AddOne (ls ++ more)) (sym (o calm)) (a u)),
      step-more takes
          g.met.P.ProofTracer.takes_more p0 p1 p2 first more v i j,
    ))
    c.requires.ready c.in_ok-simplify_root_if_unpropagated.ensures.goes_on c.simplify_root_if_unpropagated.ensures.frame
    (made-with y z (λ lines. AddOneIfUnknown lines z × TakesStep takes p1 lines v p2) m)

pub returns-in_ok-find_and_learn-in-Ok-clause-made : goal.returns-in_ok-find_and_learn-in-Ok-clause-made
returns-in_ok-find_and_learn-in-Ok-clause-made g c =
    after g (goal.at.returns-in_ok-find_and_learn-in-Ok-clause-made g c).In_ok-simplify_root_if_unpropagated c.find_and_learn.new.ctx c.find_and_learn.new.proof
    c.in_ok-find_and_learn-in-Ok.ensures.made

pub returns-in_ok-learn_from_conflict-in-Err-clause-made : goal.returns-in_ok-learn_from_conflict-in-Err-clause-made
returns-in_ok-learn_from_conflict-in-Err-clause-made g c =
    let e = c.in_ok-learn_from_conflict-in-Err.ensures.learned in
    let takes = g.P.ProofTracer.takes in
    let p1 = c.simplify_root_if_unpropagated.new.proof in
    let p2 = c.learn_from_conflict.new.proof in
    let y = c.simplify_root_if_unpropagated.new.ctx in
    let z = c.learn_from_conflict.new.ctx in
    let v = outcome_at z in
    after g (goal.at.returns-in_ok-learn_from_conflict-in-Err-clause-made g c).In_ok-simplify_root_if_unpropagated z p2
    (made-are y z (λ lines. AddOne lines × TakesLines takes p1 lines p2) (λ lines. AddOneIfUnknown lines z × TakesStep takes p1 lines v p2)
    (λ lines (o, h). (
      λ u. o,
      step-lines takes p1 p2 lines v (no-core-entry (view z) z.assumptions.failed_core z.solver_state.sat_state e.further.known) h,
    ))
    (made-at-once y z (λ lines. AddOne lines × TakesLines takes p1 lines p2) c.in_ok-simplify_root_if_unpropagated.ensures.goes_on.ready e.further e.last))

pub returns-in_ok-find_and_learn-in-Ok-clause-core : goal.returns-in_ok-find_and_learn-in-Ok-clause-core
returns-in_ok-find_and_learn-in-Ok-clause-core g c = c.in_ok-find_and_learn-in-Ok.ensures.core

pub returns-in_ok-learn_from_conflict-in-Err-clause-core : goal.returns-in_ok-learn_from_conflict-in-Err-clause-core
returns-in_ok-learn_from_conflict-in-Err-clause-core g c u =
    absurd (learned-no-core c.learn_from_conflict.new.ctx.solver_state.sat_state c.in_ok-learn_from_conflict-in-Err.ensures.learned.further.known u)

pub returns-in_ok-find_and_learn-in-Ok-clause-fixes : goal.returns-in_ok-find_and_learn-in-Ok-clause-fixes
returns-in_ok-find_and_learn-in-Ok-clause-fixes g c =
    let z = c.find_and_learn.new.ctx in
    let s = c.in_ok-simplify_root_if_unpropagated.ensures in
    record {
      keeps = λ calm n.
          let (same, e) = s.stays calm in
          subst (λ (y : Context g.row.A.Denot). KeepsFixed (view y) (view z)) same
          (c.in_ok-find_and_learn-in-Ok.ensures.fixed (subst (λ (y : Context g.row.A.Denot). IsRootUnpropagated (view y) → ⊥) (sym same) calm) n);
      refutes = λ none f k. absurd (s.finds none f k c.in-Ok.is);
    }

pub returns-in_ok-learn_from_conflict-in-Err-clause-fixes : goal.returns-in_ok-learn_from_conflict-in-Err-clause-fixes
returns-in_ok-learn_from_conflict-in-Err-clause-fixes g c =
    let s = c.in_ok-simplify_root_if_unpropagated.ensures in
    let e = c.in_ok-learn_from_conflict-in-Err.ensures.learned in
    let other : c.in_ok-simplify_root_if_unpropagated.field-0 ≡ Ok tt → ⊥ = λ o. (let z : Err c.in-Err.conflict ≡ Ok tt = sym c.in-Err.is ∙ o in cc) in
    record {
      keeps = λ calm n. absurd (other (s.stays calm).1);
      refutes = λ none f k.
          ⊎_elim
          (λ u.
          let (deep, keeps) = e.fixed (λ v. let z : verdict.Unknown ≡ verdict.Unsat = sym u ∙ v in absurd cc) in
          let n = ap length (s.at_zero other) in
          absurd (omega (arith, deep, n)))
          (λ v. v)
          e.further.known;
    }

pub returns-in_err-simplify_root_if_unpropagated-clause-broken : goal.returns-in_err-simplify_root_if_unpropagated-clause-broken
returns-in_err-simplify_root_if_unpropagated-clause-broken g c =
    trace-broken g.P.ProofTracer.breaks_off c.args.proof.now c.simplify_root_if_unpropagated.new.proof c.from_residual.result c.in_err-simplify_root_if_unpropagated.field-0.0
    c.from_residual.ensures
    c.in_err-simplify_root_if_unpropagated.ensures.broken

-- simplifying the root level keeps the schedule
planned : {A : Type 0} {x y : Context A} → ChangesRootSimplified x y → KeepsSchedule x y
planned {x = x} k = subst (KeepsSchedule x) (sym k) (record { schedule = refl; solver_config = refl })

pub returns-in_err-simplify_root_if_unpropagated-clause-ends : goal.returns-in_err-simplify_root_if_unpropagated-clause-ends
returns-in_err-simplify_root_if_unpropagated-clause-ends g c =
    let e = c.in_err-simplify_root_if_unpropagated.field-0.0 in
    ends-unfilled c.from_residual.result (step_error_of_trace e) c.from_residual.ensures (trace-unfilled e) (planned c.simplify_root_if_unpropagated.ensures.frame)

pub returns-in_ok-find_and_learn-in-Ok-clause-ends : goal.returns-in_ok-find_and_learn-in-Ok-clause-ends
returns-in_ok-find_and_learn-in-Ok-clause-ends g c =
    record { schedule = schedule-through (planned c.simplify_root_if_unpropagated.ensures.frame) c.find_and_learn.ensures.ends.schedule; full = tt }

pub returns-in_ok-learn_from_conflict-in-Err-clause-ends : goal.returns-in_ok-learn_from_conflict-in-Err-clause-ends
returns-in_ok-learn_from_conflict-in-Err-clause-ends g c =
    record { schedule = schedule-through (planned c.simplify_root_if_unpropagated.ensures.frame) c.learn_from_conflict.ensures.ends.schedule; full = tt }

pub returns-in_err-find_and_learn-in-Ok-clause-ends : goal.returns-in_err-find_and_learn-in-Ok-clause-ends
returns-in_err-find_and_learn-in-Ok-clause-ends g c =
    ends-after c.from_residual-in_err-find_and_learn-in-Ok.result c.in_err-find_and_learn-in-Ok.field-0.0
    c.from_residual-in_err-find_and_learn-in-Ok.ensures (planned c.simplify_root_if_unpropagated.ensures.frame) c.in_ok-simplify_root_if_unpropagated.ensures.goes_on.extends.count
    c.in_err-find_and_learn-in-Ok.ensures.ends

pub returns-in_err-learn_from_conflict-in-Err-clause-ends : goal.returns-in_err-learn_from_conflict-in-Err-clause-ends
returns-in_err-learn_from_conflict-in-Err-clause-ends g c =
    ends-after c.from_residual-in_err-learn_from_conflict-in-Err.result c.in_err-learn_from_conflict-in-Err.field-0.0
    c.from_residual-in_err-learn_from_conflict-in-Err.ensures (planned c.simplify_root_if_unpropagated.ensures.frame) c.in_ok-simplify_root_if_unpropagated.ensures.goes_on.extends.count
    c.in_err-learn_from_conflict-in-Err.ensures.ends

pub returns-in_err-find_and_learn-in-Ok-clause-broken : goal.returns-in_err-find_and_learn-in-Ok-clause-broken
returns-in_err-find_and_learn-in-Ok-clause-broken g c =
    let (lines, p, (s, o, t)) = c.in_ok-simplify_root_if_unpropagated.ensures.goes_on.proves in
    step-passed g.P.ProofTracer.breaks_off c.args.proof.now c.find_and_learn.new.proof c.from_residual-in_err-find_and_learn-in-Ok.result
    c.in_err-find_and_learn-in-Ok.field-0.0 c.from_residual-in_err-find_and_learn-in-Ok.ensures
    (breaks-on g.P.ProofTracer.takes g.P.ProofTracer.breaks_off g.met.P.ProofTracer.breaks_behind t c.in_err-find_and_learn-in-Ok.ensures.broken)

pub returns-in_err-learn_from_conflict-in-Err-clause-broken : goal.returns-in_err-learn_from_conflict-in-Err-clause-broken
returns-in_err-learn_from_conflict-in-Err-clause-broken g c =
    let (lines, p, (s, o, t)) = c.in_ok-simplify_root_if_unpropagated.ensures.goes_on.proves in
    step-passed g.P.ProofTracer.breaks_off c.args.proof.now c.learn_from_conflict.new.proof c.from_residual-in_err-learn_from_conflict-in-Err.result
    c.in_err-learn_from_conflict-in-Err.field-0.0 c.from_residual-in_err-learn_from_conflict-in-Err.ensures
    (breaks-on g.P.ProofTracer.takes g.P.ProofTracer.breaks_off g.met.P.ProofTracer.breaks_behind t c.in_err-learn_from_conflict-in-Err.ensures.broken)
