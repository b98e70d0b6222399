use Rattle.std.proofs.Common.{◌≡◌, ◌<◌, Bool, true, false, MatchBool, length, inr, refl, sym, ap, subst, ◌∙◌}
use Rattle.varisat_theory.specs.promises.Membership.{◌∈◌}
use Rattle.varisat_theory.specs.promises.Literals.{Literal}
use Rattle.varisat_theory.specs.promises.Propagation.{IsComplete}
use Rattle.varisat_prop.specs.View.{View, kept, WellFormed, GrowsTrail}
use Rattle.varisat_prop.specs.Changes.{decided_on}
use Rattle.varisat_prop.proofs.trails.EnqueueAssignment.{decided-grows, decided-well}
use Rattle.varisat_search.specs.declared.context.Context.{Context}
use Rattle.varisat_search.specs.AssumptionParts.{AssumptionParts, HasAssumptions, ComesToNext}
use Rattle.varisat_search.specs.Contexts.{view, KeepsSchedule, IsReady}
use Rattle.varisat_search.specs.Frames.{ChangesDecided, ChangesDecisions, GoesForward}
use Rattle.varisat_search.specs.Decisions.{AreDecidable, CanDecide, SameDecidable}
use Rattle.varisat_search.specs.Steps.{IsFree}
use Rattle.varisat_search.proofs.assuming.AssumptionLevels.{has-grown}
use Rattle.varisat_search.proofs.assuming.AssumptionContexts.{still-assumable}
use Rattle.varisat_search.proofs.stepping.ReadyAfter.{decided-ready, ready-with}
use Rattle.varisat_search.proofs.stepping.StepOutcome.{decided-longer}
use Rattle.varisat_prop.proofs.views.ViewGrowth.{grows-refl}
use Rattle.varisat_search.specs.RootSimplified.{FixesNone}
use Rattle.varisat_search.proofs.stepping.FixedLiterals.{fixed-decided, fixed-still}
use Rattle.varisat_search.proofs.stepping.Frames.{schedule-through, forward-through, searches-fails}
use Rattle.varisat_search.proofs.cdcl.decide.Given.{Over}
use Rattle.varisat_search.proofs.cdcl.decide.Goals.{After-enqueue_assumption, In_ok-made}
use Rattle.varisat_search.proofs.cdcl.decide.Goals as goal

-- A search in which a literal is decided, or none is left to decide.

-- the view grows by the literal
module _ (s t : View) (w : WellFormed s) (l : Literal) (free : IsFree s l) (e : t ≡ decided_on s l) where
  literal-grows : GrowsTrail s t
  literal-grows = subst (GrowsTrail s) (sym e) (decided-grows s l w free.0 free.1)

  literal-longer : length s.trail < length t.trail
  literal-longer = (decided-longer s t l (subst WellFormed (sym e) (decided-well s l w free.0 free.1)) e).0

module _ {A : Type 0} (x z : Context A) (r : IsReady x) (all : x.assumptions.levels ≡ length x.assumptions.working)
    (k : ChangesDecisions x z) (d : CanDecide (view z) z.vsids)
    (same : SameDecidable (view x) x.vsids (view z) z.vsids) where
  list : z.assumptions ≡ x.assumptions
  list = ap (λ (y : Context A). y.assumptions) k

  -- once each assumption has its level another literal is decided
  literal-ready : IsComplete (kept (view x)) x.trail.literals → x.trail.queue_head ≡ length x.trail.literals → (l : Literal) →
      IsFree (view x) l → view z ≡ decided_on (view x) l → IsReady z
  literal-ready q head l free e =
      let levels = has-grown (view x) (view z) x.assumptions r.well (literal-grows (view x) (view z) r.well l free e) (inr all) r.assumed in
      decided-ready x z l r q head free e
      (subst (λ (y : Context A). ChangesDecided x y) (sym k) refl)
      d
      (subst (HasAssumptions (view z)) (sym list) levels)
      (still-assumable (view x) x.vsids (view z) z.vsids x.assumptions.working z.assumptions.working same
      (λ l i. subst (λ (a : AssumptionParts). l ∈ a.working) list i) r.assumable)

  -- or none is
  end-ready : z ≡ record x { vsids = z.vsids } → IsReady z
  end-ready e =
      let stay = still-assumable (view x) x.vsids (view z) z.vsids x.assumptions.working x.assumptions.working same (λ l i. i) r.assumable in
      let s = ap (λ (y : Context A). view y) e in
      subst IsReady (sym e) (ready-with x (record x { vsids = z.vsids }) r refl refl refl r.propagated
      (subst (λ (u : View). CanDecide u z.vsids) s d) r.assumed (subst (λ (u : View). AreDecidable u z.vsids x.assumptions.working) s stay))

-- a decision was made, or none
made-or-not : (b : Bool) (P Q C : Type 0) → MatchBool b P Q → (P → C) → (Q → C) → C
made-or-not true P Q C m f h = f m
made-or-not false P Q C m f h = h m

pub returns-in-Enqueued-clause-grows : goal.returns-in-Enqueued-clause-grows
returns-in-Enqueued-clause-grows g c =
    let s = view c.args.ctx.now in
    let x = c.enqueue_assumption.new.ctx in
    let (l, free, e) = subst (ComesToNext s (view x) x.assumptions) c.in-Enqueued.is c.in_ok-enqueue_assumption.ensures.next in
    literal-grows s (view x) c.requires.ready.well l free e

pub returns-in-Conflict-clause-grows : goal.returns-in-Conflict-clause-grows
returns-in-Conflict-clause-grows g c =
    let s = view c.args.ctx.now in
    let x = c.enqueue_assumption.new.ctx in
    let n = subst (ComesToNext s (view x) x.assumptions) c.in-Conflict.is c.in_ok-enqueue_assumption.ensures.next in
    subst (GrowsTrail s) (sym n.0) (grows-refl s)

pub returns-in-Enqueued-clause-fixed : goal.returns-in-Enqueued-clause-fixed
returns-in-Enqueued-clause-fixed g c =
    let s = view c.args.ctx.now in
    let x = c.enqueue_assumption.new.ctx in
    let (l, free, e) = subst (ComesToNext s (view x) x.assumptions) c.in-Enqueued.is c.in_ok-enqueue_assumption.ensures.next in
    subst (FixesNone s) (sym e) (fixed-decided s l c.requires.ready.well)

pub returns-in-Conflict-clause-fixed : goal.returns-in-Conflict-clause-fixed
returns-in-Conflict-clause-fixed g c =
    let s = view c.args.ctx.now in
    let x = c.enqueue_assumption.new.ctx in
    let n = subst (ComesToNext s (view x) x.assumptions) c.in-Conflict.is c.in_ok-enqueue_assumption.ensures.next in
    subst (FixesNone s) (sym n.0) (fixed-still s c.requires.propagated)

-- what the choice of a literal leaves, whether there was one or none
ready : (g : Over) (c : In_ok-made g) → IsReady c.make_decision.new.ctx
ready g c =
    let s = view c.args.ctx.now in
    let x = c.enqueue_assumption.new.ctx in
    let z = c.make_decision.new.ctx in
    let r = c.in_ok-enqueue_assumption.ensures.ready in
    let n = subst (ComesToNext s (view x) x.assumptions) c.in-Done.is c.in_ok-enqueue_assumption.ensures.next in
    let m = c.in_ok-made.ensures in
    made-or-not c.in_ok-made.made _ _ _ m.decided
    (λ p. literal-ready x z r n.1 m.frame m.decidable m.forward.decidable (subst (λ (t : View). IsComplete (kept t) t.trail) (sym n.0) c.requires.complete)
    (subst (λ (t : View). t.queue_head ≡ length t.trail) (sym n.0) c.requires.propagated) p.0 p.1 p.2)
    (λ p. end-ready x z r n.1 m.frame m.decidable m.forward.decidable p.0)

pub returns-then-made-clause-ready : goal.returns-then-made-clause-ready
returns-then-made-clause-ready g c = ready g (goal.at.returns-then-made-clause-ready g c).In_ok-made

pub returns-else-made-clause-ready : goal.returns-else-made-clause-ready
returns-else-made-clause-ready g c = ready g (goal.at.returns-else-made-clause-ready g c).In_ok-made

grows : (g : Over) (c : In_ok-made g) → GrowsTrail (view c.args.ctx.now) (view c.make_decision.new.ctx)
grows g c =
    let x = c.enqueue_assumption.new.ctx in
    let z = c.make_decision.new.ctx in
    let n = subst (ComesToNext (view c.args.ctx.now) (view x) x.assumptions) c.in-Done.is c.in_ok-enqueue_assumption.ensures.next in
    made-or-not c.in_ok-made.made _ _ _ c.in_ok-made.ensures.decided
    (λ p. subst (λ (t : View). GrowsTrail t (view z)) n.0 (literal-grows (view x) (view z) c.in_ok-enqueue_assumption.ensures.ready.well p.0 p.1 p.2))
    (λ p. subst (GrowsTrail (view c.args.ctx.now)) (sym (ap (λ (y : Context g.row.A.Denot). view y) p.0 ∙ n.0)) (grows-refl (view c.args.ctx.now)))

pub returns-then-made-clause-grows : goal.returns-then-made-clause-grows
returns-then-made-clause-grows g c = grows g (goal.at.returns-then-made-clause-grows g c).In_ok-made

pub returns-else-made-clause-grows : goal.returns-else-made-clause-grows
returns-else-made-clause-grows g c = grows g (goal.at.returns-else-made-clause-grows g c).In_ok-made

fixed : (g : Over) (c : In_ok-made g) → FixesNone (view c.args.ctx.now) (view c.make_decision.new.ctx)
fixed g c =
    let s = view c.args.ctx.now in
    let x = c.enqueue_assumption.new.ctx in
    let z = c.make_decision.new.ctx in
    let n = subst (ComesToNext s (view x) x.assumptions) c.in-Done.is c.in_ok-enqueue_assumption.ensures.next in
    made-or-not c.in_ok-made.made _ _ _ c.in_ok-made.ensures.decided
    (λ p. subst (λ (t : View). FixesNone t (view z)) n.0
    (subst (FixesNone (view x)) (sym p.2) (fixed-decided (view x) p.0 c.in_ok-enqueue_assumption.ensures.ready.well)))
    (λ p. subst (FixesNone s) (sym (ap (λ (y : Context g.row.A.Denot). view y) p.0 ∙ n.0)) (fixed-still s c.requires.propagated))

pub returns-then-made-clause-fixed : goal.returns-then-made-clause-fixed
returns-then-made-clause-fixed g c = fixed g (goal.at.returns-then-made-clause-fixed g c).In_ok-made

pub returns-else-made-clause-fixed : goal.returns-else-made-clause-fixed
returns-else-made-clause-fixed g c = fixed g (goal.at.returns-else-made-clause-fixed g c).In_ok-made

-- the schedule stays
planned : (g : Over) (c : After-enqueue_assumption g) → KeepsSchedule c.args.ctx.now c.enqueue_assumption.new.ctx
planned g c = subst (KeepsSchedule c.args.ctx.now) (sym c.enqueue_assumption.ensures.frame) (record { schedule = refl; solver_config = refl })

pub returns-in_err-enqueue_assumption-clause-goes : goal.returns-in_err-enqueue_assumption-clause-goes
returns-in_err-enqueue_assumption-clause-goes g c =
    searches-fails c.from_residual.result c.from_residual.ensures.0
    (planned g (goal.at.returns-in_err-enqueue_assumption-clause-goes g c).After-enqueue_assumption)

pub returns-in-Enqueued-clause-goes : goal.returns-in-Enqueued-clause-goes
returns-in-Enqueued-clause-goes g c = record {
  forward = c.in_ok-enqueue_assumption.ensures.forward;
  schedule = planned g (goal.at.returns-in-Enqueued-clause-goes g c).After-enqueue_assumption;
}

pub returns-in-Conflict-clause-goes : goal.returns-in-Conflict-clause-goes
returns-in-Conflict-clause-goes g c = record {
  forward = c.in_ok-enqueue_assumption.ensures.forward;
  schedule = planned g (goal.at.returns-in-Conflict-clause-goes g c).After-enqueue_assumption;
}

pub returns-in_err-made-clause-goes : goal.returns-in_err-made-clause-goes
returns-in_err-made-clause-goes g c =
    searches-fails c.from_residual-in_err-made.result c.from_residual-in_err-made.ensures.0
    (schedule-through (planned g (goal.at.returns-in_err-made-clause-goes g c).After-enqueue_assumption)
    (subst (KeepsSchedule c.enqueue_assumption.new.ctx) (sym c.make_decision.ensures.frame) (record { schedule = refl; solver_config = refl })))

forward : (g : Over) (c : In_ok-made g) → GoesForward c.args.ctx.now c.make_decision.new.ctx
forward g c = forward-through c.in_ok-enqueue_assumption.ensures.forward c.in_ok-made.ensures.forward

pub returns-then-made-clause-goes : goal.returns-then-made-clause-goes
returns-then-made-clause-goes g c = record {
  forward = forward g (goal.at.returns-then-made-clause-goes g c).In_ok-made;
  schedule = schedule-through (planned g (goal.at.returns-then-made-clause-goes g c).After-enqueue_assumption)
      (subst (KeepsSchedule c.enqueue_assumption.new.ctx) (sym c.make_decision.ensures.frame) (record { schedule = refl; solver_config = refl }));
}

pub returns-else-made-clause-goes : goal.returns-else-made-clause-goes
returns-else-made-clause-goes g c = record {
  forward = forward g (goal.at.returns-else-made-clause-goes g c).In_ok-made;
  schedule = schedule-through (planned g (goal.at.returns-else-made-clause-goes g c).After-enqueue_assumption)
      (subst (KeepsSchedule c.enqueue_assumption.new.ctx) (sym c.make_decision.ensures.frame) (record { schedule = refl; solver_config = refl }));
}
