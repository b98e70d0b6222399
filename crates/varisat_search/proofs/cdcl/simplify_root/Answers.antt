use Rattle.varisat_steps.proofs.Broken.{error-broken, breaks-on, breaks-not}
use Rattle.varisat_steps.specs.declared.tracer.TraceError.TheVariants.{Memory}
use Rattle.std.proofs.Common.{◌≡◌, Ok, Err, MatchResult, List, [], ◌++◌, length, refl, sym, ap, ap₂, ◌∙◌, subst}
use Rattle.varisat_theory.specs.promises.Propagation.{IsComplete}
use Rattle.varisat_theory.specs.inside.Outcomes.{Proves}
use Rattle.varisat_theory.specs.inside.StepLaws.{unit_lines}
use Rattle.varisat_prop.specs.View.{kept}
use Rattle.varisat_prop.specs.Changes.{IsConflicting}
use Rattle.varisat_search.specs.declared.context.Context.{Context}
use Rattle.varisat_search.specs.Contexts.{view, IsReady}
use Rattle.varisat_search.specs.ProvedUnits.{implied_units, ProvesUnits}
use Rattle.varisat_search.specs.Seen.{search_of}
use Rattle.varisat_theory.specs.promises.Derivations.{Line}
use Rattle.varisat_search.specs.RootSimplified.{SimplifiesRoot}
use Rattle.varisat_search.specs.Simplifications.{pair_lines, clause_lines}
use Rattle.varisat_steps.specs.Traces.{TakesLines, AdmitsFor}
use Rattle.varisat_steps.proofs.Traced.{lines-more, holds_on, holds_still}
use Rattle.varisat_search.proofs.stepping.StepWithoutLines.{grows_prove}
use Rattle.varisat_search.proofs.stepping.FixedLiterals.{none-was-conflicting}
use Rattle.varisat_search.proofs.simplifying.ProvedUnits.{units-all}
use Rattle.varisat_search.proofs.simplifying.RootSimplified.{ProvedAfter, goes-trans, goes-simplified, goes-to-units, simplifies_root-to-units, still-conflicting, settled-down}
use Rattle.varisat_search.proofs.cdcl.simplify_root.Given.{Over}
use Rattle.varisat_search.proofs.cdcl.simplify_root.Goals.{In_ok-propagated}
use Rattle.varisat_search.proofs.cdcl.simplify_root.Goals as goal

-- the context after propagation
abbrev mid : (g : Over) (c : In_ok-propagated g) → Context g.row.A.Denot
mid g c = c.propagate_counted.new.ctx

ready : (g : Over) (c : In_ok-propagated g) → IsReady (mid g c)
ready g c = c.in_ok-propagated.ensures.ready

none : (g : Over) (c : In_ok-propagated g) → (mid g c).trail.decisions ≡ []
none g c = c.in_ok-propagated.ensures.propagates.decisions ∙ c.requires.undecided

-- once the units are proved
facts : (g : Over) (h : In_ok-propagated g) (p : Context g.row.A.Denot) → IsReady p →
    ((mid g h).trail.decisions ≡ [] → ProvesUnits (view (mid g h)) (view p)) →
    ((mid g h).trail.decisions ≡ [] → Proves 0 (search_of (view (mid g h))) (search_of (view p))
    (unit_lines (implied_units (view (mid g h))))) → p ≡ record (mid g h) { impl_graph = p.impl_graph } → ProvedAfter h.args.ctx.now (mid g h) p
facts g h p r f l k =
    let e = h.in_ok-propagated.ensures in
    record {
      ready = h.requires.ready;
      mid_ready = ready g h;
      none = none g h;
      propagates = e.propagates;
      last = e.last;
      kept = h.propagate_counted.ensures.frame;
      end_ready = r;
      proved = f (none g h);
      proves = l (none g h);
      end_kept = k;
    }

-- what the tracer may hold fits the search after propagation
holds : (g : Over) (c : In_ok-propagated g) → AdmitsFor (g.P.ProofTracer.holds c.args.proof.now) (search_of (view (mid g c)))
holds g c =
    let x = c.args.ctx.now in
    holds_still (g.P.ProofTracer.holds c.args.proof.now) 0 (search_of (view x)) (search_of (view (mid g c))) c.requires.holds
    (grows_prove (view x) (view (mid g c)) c.requires.ready.well (ready g c).well c.in_ok-propagated.ensures.propagates.grows)

pub prove_units-requires-clause-holds : goal.prove_units-requires-clause-holds
prove_units-requires-clause-holds g c = holds g (goal.at.prove_units-requires-clause-holds g c).In_ok-propagated

pub unit_simplify-requires-clause-holds : goal.unit_simplify-requires-clause-holds
unit_simplify-requires-clause-holds g c =
    let h = (goal.at.unit_simplify-requires-clause-holds g c).In_ok-propagated in
    let p = c.in_ok-prove_units.ensures in
    let m = mid g h in
    holds_on g.P.ProofTracer.holds g.P.ProofTracer.takes g.met.P.ProofTracer.holds_after c.args.proof.now c.prove_units.new.proof 0
    (search_of (view m)) (search_of (view c.prove_units.new.ctx)) (unit_lines (implied_units (view m))) (holds g h) (p.proves (none g h))
    (p.takes (none g h))

pub unit_simplify-requires-clause-can : goal.unit_simplify-requires-clause-can
unit_simplify-requires-clause-can g c =
    let h = (goal.at.unit_simplify-requires-clause-can g c).In_ok-propagated in
    let m = mid g h in
    let y = c.prove_units.new.ctx in
    let p = c.in_ok-prove_units.ensures in
    let k = c.prove_units.ensures.frame in
    let ends = subst (λ r. MatchResult r (λ _. IsComplete (kept (view m)) m.trail.literals × (m.trail.queue_head ≡ length m.trail.literals))
    (λ f. IsConflicting (view m) f)) c.in_default.is c.in_ok-propagated.ensures.ends in
    record {
      ready = p.ready;
      undecided = ap (λ (z : Context g.row.A.Denot). z.trail.decisions) k ∙ none g h;
      complete = subst (λ (z : Context g.row.A.Denot). IsComplete (kept (view z)) z.trail.literals) (sym k) ends.0;
      propagated = subst (λ (z : Context g.row.A.Denot). z.trail.queue_head ≡ length z.trail.literals) (sym k) ends.1;
      proved = units-all (view m) (view y) (ready g h).well (none g h) (p.proved (none g h));
    }

pub returns-in-Err-clause-goes_on : goal.returns-in-Err-clause-goes_on
returns-in-Err-clause-goes_on g c =
    let h = (goal.at.returns-in-Err-clause-goes_on g c).In_ok-propagated in
    let m = mid g h in
    let p = c.in_ok-prove_units.ensures in
    let t = view c.prove_units.new.ctx in
    let d = facts g h c.prove_units.new.ctx p.ready p.proved p.proves c.prove_units.ensures.frame in
    let ends = subst (λ r. MatchResult r (λ _. IsComplete (kept (view m)) m.trail.literals × (m.trail.queue_head ≡ length m.trail.literals))
    (λ f. IsConflicting (view m) f)) c.in-Err.is c.in_ok-propagated.ensures.ends in
    goes-to-units c.args.ctx.now m c.prove_units.new.ctx d
    (λ lines. SimplifiesRoot lines (view c.args.ctx.now) t (Err c.in-Err.conflict)
    × TakesLines g.P.ProofTracer.takes c.args.proof.now lines c.prove_units.new.proof) (
      simplifies_root-to-units c.args.ctx.now m c.prove_units.new.ctx d (unit_lines (implied_units (view m))) t (Err c.in-Err.conflict)
          (refl, still-conflicting (view m) t c.in-Err.conflict (p.proved (none g h)) ends, refl) tt,
      p.takes (none g h),
    )

pub returns-in-Err-clause-conflict : goal.returns-in-Err-clause-conflict
returns-in-Err-clause-conflict g c =
    let h = (goal.at.returns-in-Err-clause-conflict g c).In_ok-propagated in
    let m = mid g h in
    let t = view c.prove_units.new.ctx in
    let ends = subst (λ r. MatchResult r (λ _. IsComplete (kept (view m)) m.trail.literals × (m.trail.queue_head ≡ length m.trail.literals))
    (λ f. IsConflicting (view m) f)) c.in-Err.is c.in_ok-propagated.ensures.ends in
    still-conflicting (view m) t c.in-Err.conflict (c.in_ok-prove_units.ensures.proved (none g h)) ends

pub returns-in-Err-clause-finds : goal.returns-in-Err-clause-finds
returns-in-Err-clause-finds g c f k e = absurd cc

pub returns-clause-finds : goal.returns-clause-finds
returns-clause-finds g c f k e =
    let h = (goal.at.returns-clause-finds g c).In_ok-propagated in
    let m = mid g h in
    let ends = subst (λ r. MatchResult r (λ _. IsComplete (kept (view m)) m.trail.literals × (m.trail.queue_head ≡ length m.trail.literals))
    (λ f. IsConflicting (view m) f)) c.in_default.is c.in_ok-propagated.ensures.ends in
    none-was-conflicting (view c.args.ctx.now) (view m) c.requires.ready.well c.in_ok-propagated.ensures.propagates.grows ends.0 f k

pub returns-in-Err-clause-at_zero : goal.returns-in-Err-clause-at_zero
returns-in-Err-clause-at_zero g c =
    let h = (goal.at.returns-in-Err-clause-at_zero g c).In_ok-propagated in
    ap (λ (z : Context g.row.A.Denot). z.trail.decisions) c.prove_units.ensures.frame ∙ none g h

pub returns-clause-at_zero : goal.returns-clause-at_zero
returns-clause-at_zero g c =
    let h = (goal.at.returns-clause-at_zero g c).In_ok-propagated in
    ap (λ (z : Context g.row.A.Denot). z.trail.decisions) c.unit_simplify.ensures.frame
    ∙ ap (λ (z : Context g.row.A.Denot). z.trail.decisions) c.prove_units.ensures.frame ∙ none g h

pub returns-clause-goes_on : goal.returns-clause-goes_on
returns-clause-goes_on g c =
    let h = (goal.at.returns-clause-goes_on g c).In_ok-propagated in
    let x = c.args.ctx.now in
    let m = mid g h in
    let y = c.prove_units.new.ctx in
    let z = c.unit_simplify.new.ctx in
    let p = c.in_ok-prove_units.ensures in
    let q = c.in_ok-unit_simplify.ensures in
    let takes = g.P.ProofTracer.takes in
    let p0 = c.args.proof.now in
    let p1 = c.prove_units.new.proof in
    let p2 = c.unit_simplify.new.proof in
    let d = facts g h y p.ready p.proved p.proves c.prove_units.ensures.frame in
    let units = unit_lines (implied_units (view m)) in
    let left = pair_lines (view y) ++ clause_lines (view y) in
    let ends = subst (λ r. MatchResult r (λ _. IsComplete (kept (view m)) m.trail.literals × (m.trail.queue_head ≡ length m.trail.literals))
    (λ f. IsConflicting (view m) f)) c.in_default.is c.in_ok-propagated.ensures.ends in
    goes-trans x y z (λ lines. (lines ≡ units) × TakesLines takes p0 lines p1) (λ lines. (lines ≡ left) × TakesLines takes p1 lines p2)
    (λ lines. SimplifiesRoot lines (view x) (view z) (Ok tt) × TakesLines takes p0 lines p2)
    (λ first more (e, i) (f, j). (
      simplifies_root-to-units x m y d (first ++ more) (view z) (Ok tt) (q.simplified, ap₂ (λ (xs ys : List Line). xs ++ ys) e f) ends.0,
      lines-more takes g.met.P.ProofTracer.takes_more p0 p1 p2 first more i j,
    ))
    (goes-to-units x m y d (λ lines. (lines ≡ units) × TakesLines takes p0 lines p1) (refl, p.takes (none g h)))
    (goes-simplified y z (λ lines. (lines ≡ left) × TakesLines takes p1 lines p2) q.ready left q.proves
    (refl, q.takes) q.decidable c.unit_simplify.ensures.frame)

pub returns-clause-settled : goal.returns-clause-settled
returns-clause-settled g c =
    let h = (goal.at.returns-clause-settled g c).In_ok-propagated in
    let m = mid g h in
    let p = c.in_ok-prove_units.ensures in
    let ends = subst (λ r. MatchResult r (λ _. IsComplete (kept (view m)) m.trail.literals × (m.trail.queue_head ≡ length m.trail.literals))
    (λ f. IsConflicting (view m) f)) c.in_default.is c.in_ok-propagated.ensures.ends in
    settled-down (view c.prove_units.new.ctx) (view c.unit_simplify.new.ctx)
    (ap (λ (y : Context g.row.A.Denot). y.trail.decisions) c.prove_units.ensures.frame ∙ none g h)
    (ap (λ (y : Context g.row.A.Denot). y.trail.queue_head) c.prove_units.ensures.frame ∙ ends.1
    ∙ sym (ap (λ (y : Context g.row.A.Denot). length y.trail.literals) c.prove_units.ensures.frame))
    (units-all (view m) (view c.prove_units.new.ctx) (ready g h).well (none g h) (p.proved (none g h)))
    c.in_ok-unit_simplify.ensures.simplified

pub returns-in_err-propagated-clause-broken : goal.returns-in_err-propagated-clause-broken
returns-in_err-propagated-clause-broken g c =
    error-broken g.P.ProofTracer.breaks_off c.args.proof.now c.args.proof.now c.from_residual.result Memory c.from_residual.ensures
    (breaks-not g.P.ProofTracer.breaks_off g.met.P.ProofTracer.breaks_none c.args.proof.now)

pub returns-in_err-prove_units-clause-broken : goal.returns-in_err-prove_units-clause-broken
returns-in_err-prove_units-clause-broken g c =
    error-broken g.P.ProofTracer.breaks_off c.args.proof.now c.prove_units.new.proof c.from_residual-in_err-prove_units.result
    c.in_err-prove_units.field-0.0 c.from_residual-in_err-prove_units.ensures
    c.in_err-prove_units.ensures.broken

pub returns-in_err-unit_simplify-clause-broken : goal.returns-in_err-unit_simplify-clause-broken
returns-in_err-unit_simplify-clause-broken g c =
    let h = (goal.at.returns-in_err-unit_simplify-clause-broken g c).In_ok-propagated in
    error-broken g.P.ProofTracer.breaks_off c.args.proof.now c.unit_simplify.new.proof c.from_residual-in_err-unit_simplify.result
    c.in_err-unit_simplify.field-0.0 c.from_residual-in_err-unit_simplify.ensures
    (breaks-on g.P.ProofTracer.takes g.P.ProofTracer.breaks_off g.met.P.ProofTracer.breaks_behind
    (c.in_ok-prove_units.ensures.takes (none g h)) c.in_err-unit_simplify.ensures.broken)
