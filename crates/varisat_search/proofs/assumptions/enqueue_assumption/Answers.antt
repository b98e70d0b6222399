use Rattle.std.proofs.Common.{◌≡◌, ◌<◌, inl, inr, ⊎_elim, true, length, take, sym, ◌∙◌, subst, arith, Some, refl, ap}
use Rattle.std.proofs.lemmas.List.{get_or-take, length-take-le}
use Rattle.varisat_theory.specs.promises.Membership.{◌∈◌}
use Rattle.varisat_theory.specs.promises.Literals.{value}
use Rattle.varisat_theory.proofs.clauses.Places.{∈-get_or}
use Rattle.varisat_prop.specs.View.{View, WellFormed}
use Rattle.varisat_prop.proofs.trails.TrailValues.{on-trail, fits-node}
use Rattle.varisat_search.specs.AssumptionParts.{AssumptionParts, HasAssumptions, TakesOutTrue, HasFailed, IsNextAssumption}
use Rattle.varisat_search.specs.TakenOut.{AreImpliedBefore}
use Rattle.varisat_search.proofs.learning.AssumedTruths.{trail-is-true}
use Rattle.varisat_prop.specs.Changes.{decided_on}
use Rattle.varisat_search.specs.declared.context.Context.{Context}
use Rattle.varisat_search.specs.Contexts.{view, IsReady}
use Rattle.varisat_search.specs.Steps.{IsFree}
use Rattle.varisat_search.specs.Decisions.{SameDecidable}
use Rattle.varisat_vsids.specs.Activities.{Activities}
use Rattle.varisat_search.proofs.stepping.Frames.{forward-same}
use Rattle.varisat_search.proofs.assuming.NextAssumption.{left-implied, left-implied-with, none-ready, next-inside, failed-ready, has-failed, next-free, next-same, next-ready}
use Rattle.varisat_search.proofs.assumptions.enqueue_assumption.Given.{Over}
use Rattle.varisat_search.proofs.assumptions.enqueue_assumption.Goals.{After-next_assumption, In-Some, In_ok-decide_lit}
use Rattle.varisat_search.proofs.assumptions.enqueue_assumption.Goals as goal

-- The assumptions that are taken out are implied by those before their place.

-- Where a level is decided for each assumption before the place, what is true on the trail is true wherever these are.
implied-before : (s : View) (x y : AssumptionParts) → WellFormed s → HasAssumptions s x → TakesOutTrue s.values (length s.decisions) x y →
    AreImpliedBefore s x y
implied-before s x y w h t held f a sat made l i =
    ⊎_elim
    (λ n. ⊎_elim
    (λ o. inl o)
    (λ o. inr (trail-is-true s w held f a sat (λ j b.
    let b' : j < x.levels = omega (arith, b, n) in
    let long = length-take-le x.levels x.working h.listed in
    let there = ∈-get_or (take x.levels x.working) j 0 (omega (arith, b', long)) in
    subst (λ m. value a m ≡ true) (get_or-take x.levels x.working j 0 b' ∙ sym (h.decided j b')) (made _ there))
    l (on-trail s w l o)))
    (t.gone l i))
    (λ n. let r = h.reached in inl (subst (λ ws. l ∈ ws) (sym (t.none (omega (arith, n, r)))) i))
    h.first

-- the same list, with other levels or another core
implied-before-with : (s : View) (x y z : AssumptionParts) → z.working ≡ y.working → AreImpliedBefore s x y → AreImpliedBefore s x z
implied-before-with s x y z e p held f a sat made l i =
    ⊎_elim (λ o. inl (subst (λ ws. l ∈ ws) (sym e) o)) (λ o. inr o) (p held f a sat made l i)

taken : (g : Over) (c : After-next_assumption g) → TakesOutTrue c.args.ctx.now.assignment.current
    (length c.args.ctx.now.trail.decisions) c.args.ctx.now.assumptions c.next_assumption.new.assumptions
taken g c = subst (λ n. TakesOutTrue c.args.ctx.now.assignment.current n c.args.ctx.now.assumptions c.next_assumption.new.assumptions)
    c.current_level-level.ensures c.next_assumption.ensures.taken

before : (g : Over) (c : After-next_assumption g) → AreImpliedBefore (view c.args.ctx.now) c.args.ctx.now.assumptions c.next_assumption.new.assumptions
before g c = implied-before (view c.args.ctx.now) c.args.ctx.now.assumptions c.next_assumption.new.assumptions c.requires.ready.well
    c.requires.ready.assumed (taken g c)

next : (g : Over) (c : In-Some g) → IsNextAssumption c.args.ctx.now.assignment.current
    (length c.args.ctx.now.trail.decisions) c.next_assumption.new.assumptions.working (Some c.in-Some.lit)
next g c = subst (λ n. IsNextAssumption c.args.ctx.now.assignment.current n c.next_assumption.new.assumptions.working (Some c.in-Some.lit))
    c.current_level-level.ensures c.in-Some.ensures.next

pub returns-in_default-clause-ready : goal.returns-in_default-clause-ready
returns-in_default-clause-ready g c = none-ready c.args.ctx.now c.next_assumption.new.assumptions c.requires.ready
    (taken g (goal.at.returns-in_default-clause-ready g c).After-next_assumption)

pub returns-in_default-clause-taken : goal.returns-in_default-clause-taken
returns-in_default-clause-taken g c = left-implied c.args.ctx.now c.next_assumption.new.assumptions c.requires.ready
    (taken g (goal.at.returns-in_default-clause-taken g c).After-next_assumption)

pub returns-in_default-clause-before : goal.returns-in_default-clause-before
returns-in_default-clause-before g c = before g (goal.at.returns-in_default-clause-before g c).After-next_assumption

pub lit_is_false-requires : goal.lit_is_false-requires
lit_is_false-requires g c =
    let here = goal.at.lit_is_false-requires g c in
    let n = next g here.In-Some in
    next-inside c.args.ctx.now c.next_assumption.new.assumptions c.requires.ready (taken g here.After-next_assumption) c.in-Some.lit n.0 n.1

pub find_failed_core-requires : goal.find_failed_core-requires
find_failed_core-requires g c κs within = (
  within,
  (
    none-ready c.args.ctx.now c.next_assumption.new.assumptions c.requires.ready
        (taken g (goal.at.find_failed_core-requires g c).After-next_assumption),
    (c.if-lit_is_false.ensures.0 refl, refl),
  ),
)

pub returns-then-lit_is_false-clause-ready : goal.returns-then-lit_is_false-clause-ready
returns-then-lit_is_false-clause-ready g c =
    let here = goal.at.returns-then-lit_is_false-clause-ready g c in
    let n = next g here.In-Some in
    let z = c.find_failed_core.new.ctx in
    failed-ready c.args.ctx.now c.next_assumption.new.assumptions c.requires.ready
    (taken g here.After-next_assumption) c.in-Some.lit n.0 n.1 z z.assumptions.failed_core c.find_failed_core.ensures.frame

pub returns-then-lit_is_false-clause-taken : goal.returns-then-lit_is_false-clause-taken
returns-then-lit_is_false-clause-taken g c =
    let here = goal.at.returns-then-lit_is_false-clause-taken g c in
    let z = c.find_failed_core.new.ctx in
    let e = ap (λ (x : Context g.row.A.Denot). x.assumptions) c.find_failed_core.ensures.frame.0 in
    left-implied-with c.args.ctx.now c.next_assumption.new.assumptions c.requires.ready (taken g here.After-next_assumption) z.assumptions
    (ap (λ (a : AssumptionParts). a.user) e) (ap (λ (a : AssumptionParts). a.user_core) e) (ap (λ (a : AssumptionParts). a.working) e)

pub returns-then-lit_is_false-clause-before : goal.returns-then-lit_is_false-clause-before
returns-then-lit_is_false-clause-before g c =
    let e = ap (λ (x : Context g.row.A.Denot). x.assumptions.working) c.find_failed_core.ensures.frame.0 in
    implied-before-with (view c.args.ctx.now) c.args.ctx.now.assumptions c.next_assumption.new.assumptions c.find_failed_core.new.ctx.assumptions e
    (before g (goal.at.returns-then-lit_is_false-clause-before g c).After-next_assumption)

pub returns-then-lit_is_false-clause-next : goal.returns-then-lit_is_false-clause-next
returns-then-lit_is_false-clause-next g c =
    let here = goal.at.returns-then-lit_is_false-clause-next g c in
    let n = next g here.In-Some in
    let z = c.find_failed_core.new.ctx in
    let k = c.find_failed_core.ensures.frame.0 in (
      ap (λ (x : Context g.row.A.Denot). view x) k,
      subst (λ (x : Context g.row.A.Denot). HasFailed (view x) x.assumptions) (sym k)
          (has-failed c.args.ctx.now c.next_assumption.new.assumptions c.requires.ready
          (taken g here.After-next_assumption) c.in-Some.lit n.0 n.1 z.assumptions.failed_core c.in_ok-find_failed_core.ensures.core),
    )

pub decide_lit-requires : goal.decide_lit-requires
decide_lit-requires g c =
    let here = goal.at.decide_lit-requires g c in
    let x = c.args.ctx.now in
    let n = next g here.In-Some in
    let free = next-free x c.next_assumption.new.assumptions c.requires.ready (taken g here.After-next_assumption) c.in-Some.lit n.0 n.1 n.2
    (λ h. let b = c.if-lit_is_false.ensures.1 h in cc) in
    let i = free.0 in
    let m = c.requires.ready.well.nodes_are in
    let fits = fits-node (view x) c.requires.ready.well in
    record { assignable = (i, omega (arith, i, m), free.1); level = fits.0; depth = fits.1 }

free : (g : Over) (c : In_ok-decide_lit g) → IsFree (view c.args.ctx.now) c.in-Some.lit
free g c =
    let n = subst (λ n. IsNextAssumption c.args.ctx.now.assignment.current n c.next_assumption.new.assumptions.working (Some c.in-Some.lit))
    c.current_level-level.ensures c.in-Some.ensures.next in
    let t = subst (λ n. TakesOutTrue c.args.ctx.now.assignment.current n c.args.ctx.now.assumptions c.next_assumption.new.assumptions)
    c.current_level-level.ensures c.next_assumption.ensures.taken in
    next-free c.args.ctx.now c.next_assumption.new.assumptions c.requires.ready t c.in-Some.lit n.0 n.1 n.2 (λ h. let b = c.if-lit_is_false.ensures.1 h in cc)

-- the context once the assumption is decided
abbrev after : (g : Over) (c : In_ok-decide_lit g) → AssumptionParts → Context g.row.A.Denot
after g c a = record c.args.ctx.now {
  assignment = c.decide_lit.new.ctx.assignment;
  assumptions = a;
  counters = c.decide_lit.new.ctx.counters;
  impl_graph = c.decide_lit.new.ctx.impl_graph;
  trail = c.decide_lit.new.ctx.trail;
}

is-after : (g : Over) (c : In_ok-decide_lit g) (a : AssumptionParts) → record c.decide_lit.new.ctx { assumptions = a } ≡ after g c a
is-after g c a = ap (λ (x : Context g.row.A.Denot). record x { assumptions = a }) c.decide_lit.ensures.frame

decided : (g : Over) (c : In_ok-decide_lit g) (a : AssumptionParts) → view (after g c a) ≡ decided_on (view c.args.ctx.now) c.in-Some.lit
decided g c a = ap (λ (x : Context g.row.A.Denot). view x) (sym c.decide_lit.ensures.frame) ∙ c.in_ok-decide_lit.ensures.decided.level

pub returns-clause-ready : goal.returns-clause-ready
returns-clause-ready g c =
    let at = goal.at.returns-clause-ready g c in
    let here = at.In_ok-decide_lit in
    let n = next g at.In-Some in
    let levels = c.set_levels.ensures ∙ ap (λ (x : Context g.row.A.Denot). record x.assumptions { levels = c.current_level.result })
    c.decide_lit.ensures.frame in
    subst (λ (x : Context g.row.A.Denot). IsReady x) (sym (is-after g here c.set_levels.new.self))
    (next-ready c.args.ctx.now c.next_assumption.new.assumptions c.requires.ready (taken g at.After-next_assumption) c.in-Some.lit n.0 n.1
    (after g here c.set_levels.new.self) c.current_level.result c.requires.complete c.requires.propagated (free g here)
    (decided g here c.set_levels.new.self) c.current_level.ensures
    (ap (after g here) levels))

pub returns-clause-taken : goal.returns-clause-taken
returns-clause-taken g c =
    let e = c.set_levels.ensures ∙ ap (λ (x : Context g.row.A.Denot). record x.assumptions { levels = c.current_level.result }) c.decide_lit.ensures.frame in
    left-implied-with c.args.ctx.now c.next_assumption.new.assumptions c.requires.ready
    (taken g (goal.at.returns-clause-taken g c).After-next_assumption) c.set_levels.new.self (ap (λ (a : AssumptionParts). a.user) e)
    (ap (λ (a : AssumptionParts). a.user_core) e) (ap (λ (a : AssumptionParts). a.working) e)

pub returns-clause-before : goal.returns-clause-before
returns-clause-before g c =
    let e = c.set_levels.ensures ∙ ap (λ (x : Context g.row.A.Denot). record x.assumptions { levels = c.current_level.result }) c.decide_lit.ensures.frame in
    implied-before-with (view c.args.ctx.now) c.args.ctx.now.assumptions c.next_assumption.new.assumptions c.set_levels.new.self
    (ap (λ (a : AssumptionParts). a.working) e)
    (before g (goal.at.returns-clause-before g c).After-next_assumption)

pub returns-clause-next : goal.returns-clause-next
returns-clause-next g c =
    let here = (goal.at.returns-clause-next g c).In_ok-decide_lit in
    (c.in-Some.lit, free g here, c.in_ok-decide_lit.ensures.decided.level)

pub returns-in_default-clause-forward : goal.returns-in_default-clause-forward
returns-in_default-clause-forward g c =
    forward-same c.args.ctx.now (record c.args.ctx.now { assumptions = c.next_assumption.new.assumptions }) refl refl refl refl

pub returns-then-lit_is_false-clause-forward : goal.returns-then-lit_is_false-clause-forward
returns-then-lit_is_false-clause-forward g c =
    let k = c.find_failed_core.ensures.frame.0 in
    forward-same c.args.ctx.now c.find_failed_core.new.ctx (ap (λ (y : Context g.row.A.Denot). (view y).values) k)
    (ap (λ (y : Context g.row.A.Denot). y.vsids) k) (ap (λ (y : Context g.row.A.Denot). y.assignment.last) k)
    (ap (λ (y : Context g.row.A.Denot). y.solver_state) k)

pub returns-clause-forward : goal.returns-clause-forward
returns-clause-forward g c =
    let at = goal.at.returns-clause-forward g c in
    let here = at.In_ok-decide_lit in
    let n = next g at.In-Some in
    let x = c.args.ctx.now in
    let k = c.decide_lit.ensures.frame in
    record {
      decidable = subst (λ (y : Context g.row.A.Denot). SameDecidable (view x) x.vsids (view y) y.vsids) (sym (is-after g here c.set_levels.new.self))
          (next-same x c.next_assumption.new.assumptions c.requires.ready (taken g at.After-next_assumption) c.in-Some.lit n.0 n.1
          (after g here c.set_levels.new.self) (free g here) (decided g here c.set_levels.new.self) refl);
      activities = subst (λ (b : Activities). b ≡ record x.vsids { available = b.available }) (sym (ap (λ (y : Context g.row.A.Denot). y.vsids) k)) refl;
      last = c.in_ok-decide_lit.ensures.decided.last;
      state = ap (λ (y : Context g.row.A.Denot). y.solver_state) k;
    }
