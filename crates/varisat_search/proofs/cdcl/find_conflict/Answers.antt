use Rattle.std.proofs.Common.{refl, sym, ap, subst, arith}
use Rattle.varisat_prop.specs.View.{GrowsTrail}
use Rattle.varisat_prop.proofs.views.ViewGrowth.{grows-refl, grows-trans, grows-longer}
use Rattle.varisat_prop.proofs.trails.TrailValues.{trail-short}
use Rattle.varisat_search.specs.declared.context.Context.{Context}
use Rattle.varisat_search.specs.Contexts.{view, KeepsSchedule}
use Rattle.varisat_search.specs.AssumptionParts.{AssumptionParts, TakesOutImplied}
use Rattle.varisat_search.specs.Frames.{GoesForward}
use Rattle.varisat_search.proofs.learning.AssumedTruths.{takes-refl, takes-trans}
use Rattle.varisat_search.specs.RootSimplified.{IsRootUnpropagated, FixesNone}
use Rattle.varisat_search.proofs.stepping.Frames.{schedule-nothing, schedule-through, forward-nothing, forward-through, searches-fails}
use Rattle.varisat_search.proofs.stepping.FixedLiterals.{fixed-propagated, fixes-through}
use Rattle.varisat_search.proofs.stepping.PropagatedContext.{propagated-forward, propagated-schedule}
use Rattle.varisat_search.proofs.stepping.StepOutcome.{Finding, finding-begins, finding-propagated, not-err}
use Rattle.varisat_search.proofs.cdcl.find_conflict.Given.{Over}
use Rattle.varisat_search.proofs.cdcl.find_conflict.Goals.{In_ok-propagated}
use Rattle.varisat_search.proofs.cdcl.find_conflict.Goals as goal

-- the context once propagation has come to its end
abbrev mid : (g : Over) (c : In_ok-propagated g) → Context g.row.A.Denot
mid g c = c.propagate_counted.new.ctx

propagated : (g : Over) (c : In_ok-propagated g) → Finding (view c.levels.ctx) (view (mid g c))
propagated g c =
    finding-propagated (view c.levels.ctx) (view c.levels.ctx) (view (mid g c)) (finding-begins c.levels.invariant.ready) c.in_ok-propagated.ensures.propagates

grown : (g : Over) (c : In_ok-propagated g) → GrowsTrail (view c.args.ctx.now) (view (mid g c))
grown g c = grows-trans (view c.args.ctx.now) (view c.levels.ctx) (view (mid g c)) c.levels.invariant.grows (propagated g c).grows

-- and makes nothing true at level 0 where all of it was propagated
fixed : (g : Over) (c : In_ok-propagated g) → (IsRootUnpropagated (view c.args.ctx.now) → ⊥) → FixesNone (view c.args.ctx.now) (view (mid g c))
fixed g c calm =
    let (same, quiet) = c.levels.invariant.fixed calm in
    fixes-through (view c.args.ctx.now) (view c.levels.ctx) (view (mid g c)) (same, quiet)
    (fixed-propagated c.levels.ctx (view (mid g c)) c.levels.invariant.ready c.in_ok-propagated.ensures.propagates quiet)

-- propagation keeps the same variables decidable
forward : (g : Over) (c : In_ok-propagated g) → GoesForward c.args.ctx.now (mid g c)
forward g c =
    let e = c.in_ok-propagated.ensures in
    let i = c.levels.invariant in
    forward-through i.forward (propagated-forward c.levels.ctx (mid g c) i.ready e.propagates e.last c.propagate_counted.ensures.frame)

-- and the assumptions
taken : (g : Over) (c : In_ok-propagated g) → TakesOutImplied (view c.args.ctx.now) c.args.ctx.now.assumptions (mid g c).assumptions
taken g c =
    subst (λ (a : AssumptionParts). TakesOutImplied (view c.args.ctx.now) c.args.ctx.now.assumptions a)
    (sym (ap (λ (y : Context g.row.A.Denot). y.assumptions) c.propagate_counted.ensures.frame)) c.levels.invariant.taken

pub returns-in-Err-clause-taken : goal.returns-in-Err-clause-taken
returns-in-Err-clause-taken g c = taken g (goal.at.returns-in-Err-clause-taken g c).In_ok-propagated

pub returns-in-Err-clause-grows : goal.returns-in-Err-clause-grows
returns-in-Err-clause-grows g c = grown g (goal.at.returns-in-Err-clause-grows g c).In_ok-propagated

pub returns-in-Err-clause-fixed : goal.returns-in-Err-clause-fixed
returns-in-Err-clause-fixed g c = fixed g (goal.at.returns-in-Err-clause-fixed g c).In_ok-propagated

-- it keeps the schedule too
planned : (g : Over) (c : In_ok-propagated g) → KeepsSchedule c.args.ctx.now (mid g c)
planned g c = schedule-through c.levels.invariant.schedule (propagated-schedule c.levels.ctx (mid g c) c.propagate_counted.ensures.frame)

pub returns-in_err-propagated-clause-goes : goal.returns-in_err-propagated-clause-goes
returns-in_err-propagated-clause-goes g c =
    searches-fails c.from_residual.result c.from_residual.ensures.0
    (schedule-through c.levels.invariant.schedule (propagated-schedule c.levels.ctx c.propagate_counted.new.ctx c.propagate_counted.ensures.frame))

pub returns-in-Err-clause-goes : goal.returns-in-Err-clause-goes
returns-in-Err-clause-goes g c =
    let here = (goal.at.returns-in-Err-clause-goes g c).In_ok-propagated in
    record { forward = forward g here; schedule = planned g here }

pub returns-in_err-decide-clause-goes : goal.returns-in_err-decide-clause-goes
returns-in_err-decide-clause-goes g c =
    searches-fails c.from_residual-in_err-decide.result c.from_residual-in_err-decide.ensures.0
    (schedule-through (planned g (goal.at.returns-in_err-decide-clause-goes g c).In_ok-propagated) c.decide.ensures.goes.schedule)

pub decide-requires-clause-complete : goal.decide-requires-clause-complete
decide-requires-clause-complete g c = (not-err c.in_ok-propagated.propagated _ _ c.in_default.not-Err c.in_ok-propagated.ensures.ends).1.0

pub decide-requires-clause-propagated : goal.decide-requires-clause-propagated
decide-requires-clause-propagated g c = (not-err c.in_ok-propagated.propagated _ _ c.in_default.not-Err c.in_ok-propagated.ensures.ends).1.1

pub levels-init : goal.levels-init
levels-init g c = record {
  ready = c.requires;
  grows = grows-refl (view c.args.ctx.now);
  fixed = λ calm. (refl, calm);
  taken =
      takes-refl (view c.args.ctx.now) c.args.ctx.now.assumptions;
  forward = forward-nothing c.args.ctx.now;
  schedule = schedule-nothing c.args.ctx.now;
}

pub returns-in-AllAssigned-clause-grows : goal.returns-in-AllAssigned-clause-grows
returns-in-AllAssigned-clause-grows g c =
    let here = (goal.at.returns-in-AllAssigned-clause-grows g c).In_ok-propagated in
    grows-trans (view c.args.ctx.now) (view (mid g here)) (view c.decide.new.ctx) (grown g here) c.in_ok-decide.ensures.grows

pub returns-in-AllAssigned-clause-fixed : goal.returns-in-AllAssigned-clause-fixed
returns-in-AllAssigned-clause-fixed g c calm =
    let here = (goal.at.returns-in-AllAssigned-clause-fixed g c).In_ok-propagated in
    fixes-through (view c.args.ctx.now) (view (mid g here)) (view c.decide.new.ctx) (fixed g here calm) c.in_ok-decide.ensures.fixed

pub returns-in-AllAssigned-clause-taken : goal.returns-in-AllAssigned-clause-taken
returns-in-AllAssigned-clause-taken g c =
    let here = (goal.at.returns-in-AllAssigned-clause-taken g c).In_ok-propagated in
    takes-trans (view c.args.ctx.now) (view (mid g here)) c.args.ctx.now.assumptions (mid g here).assumptions c.decide.new.ctx.assumptions
    (grown g here) (taken g here) c.in_ok-decide.ensures.taken

pub returns-in-AllAssigned-clause-goes : goal.returns-in-AllAssigned-clause-goes
returns-in-AllAssigned-clause-goes g c =
    let here = (goal.at.returns-in-AllAssigned-clause-goes g c).In_ok-propagated in
    let e = c.in_ok-decide.ensures.goes in
    record { forward = forward-through (forward g here) e.forward; schedule = schedule-through (planned g here) e.schedule }

pub returns-in-AssumptionFailed-clause-grows : goal.returns-in-AssumptionFailed-clause-grows
returns-in-AssumptionFailed-clause-grows g c =
    let here = (goal.at.returns-in-AssumptionFailed-clause-grows g c).In_ok-propagated in
    grows-trans (view c.args.ctx.now) (view (mid g here)) (view c.decide.new.ctx) (grown g here) c.in_ok-decide.ensures.grows

pub returns-in-AssumptionFailed-clause-fixed : goal.returns-in-AssumptionFailed-clause-fixed
returns-in-AssumptionFailed-clause-fixed g c calm =
    let here = (goal.at.returns-in-AssumptionFailed-clause-fixed g c).In_ok-propagated in
    fixes-through (view c.args.ctx.now) (view (mid g here)) (view c.decide.new.ctx) (fixed g here calm) c.in_ok-decide.ensures.fixed

pub returns-in-AssumptionFailed-clause-taken : goal.returns-in-AssumptionFailed-clause-taken
returns-in-AssumptionFailed-clause-taken g c =
    let here = (goal.at.returns-in-AssumptionFailed-clause-taken g c).In_ok-propagated in
    takes-trans (view c.args.ctx.now) (view (mid g here)) c.args.ctx.now.assumptions (mid g here).assumptions c.decide.new.ctx.assumptions
    (grown g here) (taken g here) c.in_ok-decide.ensures.taken

pub returns-in-AssumptionFailed-clause-goes : goal.returns-in-AssumptionFailed-clause-goes
returns-in-AssumptionFailed-clause-goes g c =
    let here = (goal.at.returns-in-AssumptionFailed-clause-goes g c).In_ok-propagated in
    let e = c.in_ok-decide.ensures.goes in
    record { forward = forward-through (forward g here) e.forward; schedule = schedule-through (planned g here) e.schedule }

pub levels-smaller : goal.levels-smaller
levels-smaller g c =
    let here = (goal.at.levels-smaller g c).In_ok-propagated in
    let n = rw c.in-Made.is at c.in_ok-decide.ensures.decided in
    let p = propagated g here in
    let short = trail-short (view c.decide.new.ctx) c.in_ok-decide.ensures.ready.well in
    let m = grows-longer (view c.levels.ctx) (view (mid g here)) p.grows in
    let a = p.grows.count in
    let b = c.in_ok-decide.ensures.grows.count in
    omega (arith, n, short, m, a, b)

pub levels-preserved : goal.levels-preserved
levels-preserved g c =
    let here = (goal.at.levels-preserved g c).In_ok-propagated in
    let x = c.args.ctx.now in
    let z = c.decide.new.ctx in
    let i = c.levels.invariant in
    let e = c.in_ok-decide.ensures in
    record {
      ready = e.ready;
      grows = grows-trans (view x) (view (mid g here)) (view z) (grown g here) e.grows;
      fixed = λ calm. fixes-through (view x) (view (mid g here)) (view z) (fixed g here calm) e.fixed;
      taken = takes-trans (view x) (view (mid g here)) x.assumptions (mid g here).assumptions z.assumptions (grown g here) (taken g here) e.taken;
      forward = forward-through (forward g here) e.goes.forward;
      schedule = schedule-through (planned g here) e.goes.schedule;
    }
