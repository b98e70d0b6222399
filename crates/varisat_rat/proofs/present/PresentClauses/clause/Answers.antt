use Rattle.std.proofs.lemmas.Grind.{common_steps}
use Rattle.std.proofs.Common.{ℕ, List, [], ◌∙◌, sym, ap, get_or, length, take, arith}
use Rattle.varisat_theory.specs.promises.Literals.{Clause}
use Rattle.varisat_present.specs.Places.{present}
use Rattle.varisat_present.proofs.PlacedClauses.{nth_is, count_more, count_same, at_in_slice, none_in_slice}
use Rattle.varisat_rat.proofs.present.PresentClauses.clause.Goals as goal

pub loop-place-preserved-in-None : goal.loop-place-preserved-in-None
loop-place-preserved-in-None g c = (
  count_same c.self.inside.places.items c.loop-place.place c.loop-place.before
      (none_in_slice c.deref.result.now c.self.inside.places.items c.loop-place.place c.deref.ensures.value c.in-None.ensures)
      c.loop-place.invariant.0,
  c.loop-place.invariant.1,
)

pub returns-then-before-i : goal.returns-then-before-i
returns-then-before-i g c =
    let e = at_in_slice c.deref.result.now c.self.inside.places.items c.loop-place.place c.in-Some.clause.now c.deref.ensures.value c.in-Some.ensures in
    sym (ap (λ (k : ℕ). get_or c.args.self.now k []) (sym c.if-before-i.true ∙ c.loop-place.invariant.0)
    ∙ ap (λ (P : List Clause). get_or P (length (present (take c.loop-place.place c.self.inside.places.items))) []) (sym c.self.view_is)
    ∙ nth_is c.self.inside.places.items c.loop-place.place c.in-Some.clause.now [] e)

pub loop-place-preserved : goal.loop-place-preserved
loop-place-preserved g c =
    let e = at_in_slice c.deref.result.now c.self.inside.places.items c.loop-place.place c.in-Some.clause.now c.deref.ensures.value c.in-Some.ensures in (
      count_more c.self.inside.places.items c.loop-place.place c.loop-place.before c.in-Some.clause.now e c.loop-place.invariant.0,
      omega
          (arith, c.if-before-i.false, c.loop-place.invariant.1),
    )

pub returns : goal.returns
returns g c = grind (arith, common_steps)
