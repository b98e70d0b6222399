use Rattle.std.proofs.lemmas.Grind.{common_steps}
use Rattle.std.proofs.Common.{◌-◌, ◌+◌, false, length, length-set, refl, sym, ap, ◌∙◌, subst, arith}
use Rattle.varisat_theory.specs.promises.Propagation.{IsFalse}
use Rattle.varisat_prop.specs.Changes.{NamesPlace, named_in}
use Rattle.varisat_analysis.specs.Marks.{marking}
use Rattle.varisat_analysis.proofs.WellFormedViews.{named-place}
use Rattle.varisat_analysis.proofs.AnalysisWalk.{walk-begin, walk-small, reads-before, read-inside-flags, read-true, read-skip, read-end, read-resolve}
use Rattle.varisat_analysis.proofs.analyze_conflict.resolve.Goals as goal

pub lits-requires-clause-sound : goal.lits-requires-clause-sound
lits-requires-clause-sound g c = c.requires.1.can.sees.sound

pub lits-requires-clause-place : goal.lits-requires-clause-place
lits-requires-clause-place g c =
    let sees = c.requires.1.can.sees in
    subst (λ P. NamesPlace P c.args.conflict) (sym sees.clauses_are) (named-place g.s c.args.conflict c.requires.1.conflict.conflict.0)

pub add_literals-requires : goal.add_literals-requires
add_literals-requires g c κs within =
    let sees = c.requires.1.can.sees in
    let l = c.lits.ensures ∙ ap (λ x. named_in x c.args.conflict) sees.clauses_are in
    (within, (c.requires.1.can, subst (IsFalse g.s.trail) (sym l) c.requires.1.conflict.conflict.1))

pub places-init : goal.places-init
places-init g c =
    let sees = c.requires.1.can.sees in
    walk-begin sees.well c.requires.1.conflict c.requires.1.clean c.lits.result.now c.push.new.self.items c.args.conflict (length c.trail-place.result.now)
    (c.lits.ensures ∙ ap (λ x. named_in x c.args.conflict) sees.clauses_are) c.in_ok-push.ensures.items refl
    (ap (λ x. length x) (c.trail-place.ensures ∙ sees.trail_is)) (c.in_ok-count.ensures {u = tt})

pub bounds-var_flags-index : goal.bounds-var_flags-index
bounds-var_flags-index g c =
    let sees = c.requires.1.can.sees in
    let r = reads-before c.places.invariant (c.trail.ensures ∙ sees.trail_is) c.index-trail-place.is c.index.ensures.index in
    read-inside-flags sees.well c.requires.1.conflict.deep (c.places.auto.var_flags ∙ c.add_literals.auto.var_flags ∙ c.requires.1.can.flags_are)
    c.places.invariant r

pub places-preserved-then-not-var_flags-index : goal.places-preserved-then-not-var_flags-index
places-preserved-then-not-var_flags-index g c =
    let sees = c.requires.1.can.sees in
    let r = reads-before c.places.invariant (c.trail.ensures ∙ sees.trail_is) c.index-trail-place.is c.index.ensures.index in
    read-skip sees.well c.requires.1.conflict.deep (c.places.auto.var_flags ∙ c.add_literals.auto.var_flags ∙ c.requires.1.can.flags_are)
    c.places.invariant r c.if-not-var_flags-index.true

pub returns-then-count-eq0 : goal.returns-then-count-eq0
returns-then-count-eq0 g c =
    let sees = c.requires.1.can.sees in
    let r = reads-before c.places.invariant (c.trail.ensures ∙ sees.trail_is) c.index-trail-place.is c.index.ensures.index in
    read-end sees.well c.requires.1.conflict.deep (c.places.auto.var_flags ∙ c.add_literals.auto.var_flags ∙ c.requires.1.can.flags_are)
    c.places.invariant r c.if-not-var_flags-index.false c.index-in-places.result c.index-in-places.ensures.index c.if-count-eq0.true
    c.not.result c.not.ensures

pub add_reason-requires : goal.add_reason-requires
add_reason-requires g c κs within =
    let sees = c.requires.1.can.sees in
    let n = c.places.auto.var_flags ∙ c.add_literals.auto.var_flags ∙ c.requires.1.can.flags_are in
    let r = reads-before c.places.invariant (c.trail.ensures ∙ sees.trail_is) c.index-trail-place.is c.index.ensures.index in (
      within,
      (
        record { sees = sees; flags_are = length-set c.places.var_flags c.index-in-places.result false ∙ n },
        read-true sees.well
            c.requires.1.conflict.deep n c.places.invariant r,
      ),
    )

pub overflow_add-count : goal.overflow_add-count
overflow_add-count g c =
    let sees = c.requires.1.can.sees in
    let r = reads-before c.places.invariant (c.trail.ensures ∙ sees.trail_is) c.index-trail-place.is c.index.ensures.index in
    let b = walk-small sees.well (read-resolve sees.well c.requires.1.conflict.deep
    (c.places.auto.var_flags ∙ c.add_literals.auto.var_flags ∙ c.requires.1.can.flags_are) c.places.invariant r c.if-not-var_flags-index.false
    c.index-in-places.result c.index-in-places.ensures.index c.if-count-eq0.false c.in_ok-count-2.field-0
    (c.places.count - 1 + c.in_ok-count-2.field-0) (marking c.add_reason.new.scratch c.add_reason.new.var_flags) refl
    (c.in_ok-count-2.ensures {u = tt})) in
    omega (arith, b)

pub places-preserved : goal.places-preserved
places-preserved g c =
    let sees = c.requires.1.can.sees in
    let r = reads-before c.places.invariant (c.trail.ensures ∙ sees.trail_is) c.index-trail-place.is c.index.ensures.index in
    read-resolve sees.well c.requires.1.conflict.deep (c.places.auto.var_flags ∙ c.add_literals.auto.var_flags ∙ c.requires.1.can.flags_are)
    c.places.invariant r c.if-not-var_flags-index.false c.index-in-places.result c.index-in-places.ensures.index c.if-count-eq0.false
    c.in_ok-count-2.field-0 (c.places.count - 1 + c.in_ok-count-2.field-0)
    (marking c.add_reason.new.scratch c.add_reason.new.var_flags) refl (c.in_ok-count-2.ensures {u = tt})

pub bounds-var_flags-index-in-places : goal.bounds-var_flags-index-in-places
bounds-var_flags-index-in-places g c = grind (arith, common_steps)
