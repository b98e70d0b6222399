use Rattle.std.proofs.Common.{◌≡◌, ◌+◌, ◌<◌, length, get_or, sym, ap, ◌∙◌, subst, arith}
use Rattle.varisat_theory.specs.promises.Literals.{variable_of}
use Rattle.varisat_vsids.specs.Activities.{Activities}
use Rattle.varisat_prop.specs.Parts.{IsMadeTrue}
use Rattle.varisat_prop.specs.View.{literal_at}
use Rattle.varisat_prop.proofs.trails.LiteralValues.{made-inside}
use Rattle.varisat_prop.proofs.views.ReadElements.{element}
use Rattle.varisat_search.specs.declared.context.Context.{Context}
use Rattle.varisat_search.specs.Contexts.{view}
use Rattle.varisat_search.proofs.stepping.Backtrack.{Cutting, cutting-step}
use Rattle.varisat_search.proofs.stepping.BacktrackValues.{Saving, saving-step, still-true, Making, making-step}
use Rattle.varisat_search.proofs.levels.undo.Given.{Over}
use Rattle.varisat_search.proofs.levels.undo.Goals.{After-index-trail-place}
use Rattle.varisat_search.proofs.levels.undo.Goals as goal

-- the literal that is read is that of the trail as it was
pub record Reads (g : Over) (c : After-index-trail-place g) : Type 0 where
  pub below : c.loop-place.place < length c.args.ctx.now.trail.literals
  pub lit : c.index-trail-place.result ≡ literal_at (view c.args.ctx.now) c.loop-place.place
  pub true : IsMadeTrue c.loop-place.ctx.assignment.current c.index-trail-place.result
  pub inside : variable_of c.index-trail-place.result < length c.args.ctx.now.assignment.current

reads : (g : Over) (c : After-index-trail-place g) → Reads g c
reads g c =
    let s = view c.args.ctx.now in
    let t = view c.loop-place.ctx in
    let k = c.loop-place.place in
    let n = ap (λ xs. length xs) c.trail-place-end.ensures in
    let below : k < length s.trail = omega (arith, c.loop-place-test.true, n) in
    let tr : c.trail.result.now ≡ s.trail = c.trail.ensures ∙ ap (λ x. x.trail.literals) c.loop-place.invariant.kept in
    let e : c.index-trail-place.result ≡ literal_at s k = element s.trail k c.index-trail-place.result below
    (c.index-trail-place.is ∙ ap (λ xs. get_or xs k c.index-trail-place.result) tr) in
    let i = made-inside s.values (literal_at s k) (c.requires.well.is_true k below) in
    record {
      below = below;
      lit = e;
      true = still-true s t c.level_end-end.result k c.index-trail-place.result c.requires.well c.loop-place.auto.place below e
          c.loop-place.invariant.cutting;
      inside = omega (arith, i, ap variable_of e);
    }

pub release_lit-requires : goal.release_lit-requires
release_lit-requires g c = (reads g (goal.at.release_lit-requires g c).After-index-trail-place).true

pub release-requires : goal.release-requires
release-requires g c =
    let i = (reads g (goal.at.release-requires g c).After-index-trail-place).inside in
    let v = c.var.ensures in
    let n = c.requires.entries.activity in
    let m = ap (λ (x : Context g.row.A.Denot). length x.vsids.activity) c.loop-place.invariant.kept in
    let o = ap (λ (x : Activities). length x.activity) c.loop-place.invariant.making.rest in
    omega (arith, i, v, n, o)

pub loop-place-preserved : goal.loop-place-preserved
loop-place-preserved g c =
    let s = view c.args.ctx.now in
    let t = view c.loop-place.ctx in
    let k = c.loop-place.place in
    let l = c.index-trail-place.result in
    let r = reads g (goal.at.loop-place-preserved g c).After-index-trail-place in
    record {
      cutting = subst (λ a. Cutting s (record t { values = a }) c.level_end-end.result (k + 1))
          (sym (ap (λ x. x.current) c.release_lit.ensures.released))
          (cutting-step s t c.level_end-end.result k l c.requires.well c.loop-place.auto.place r.below r.lit
          c.loop-place.invariant.cutting);
      saving = subst (λ a. Saving s c.args.ctx.now.assignment.last a c.level_end-end.result (k + 1))
          (sym (ap (λ x. x.last) c.release_lit.ensures.released))
          (saving-step s t c.args.ctx.now.assignment.last c.loop-place.ctx.assignment.last c.level_end-end.result k l
          c.requires.well c.loop-place.auto.place r.below r.lit c.release_lit.ensures.count c.loop-place.invariant.cutting
          c.loop-place.invariant.saving);
      making = subst (λ a. Making s c.args.ctx.now.vsids a c.level_end-end.result (k + 1)) (sym c.release.ensures)
          (making-step s c.args.ctx.now.vsids c.loop-place.ctx.vsids c.level_end-end.result k c.var.result c.requires.well
          c.requires.entries.available c.loop-place.auto.place r.below (c.var.ensures ∙ ap variable_of r.lit)
          c.loop-place.invariant.making);
      kept = ap (λ (x : Context g.row.A.Denot). record x { assignment = c.release_lit.new.self; vsids = c.release.new.self })
          c.loop-place.invariant.kept;
    }

pub returns : goal.returns
returns g c = grind arith
