use Rattle.std.proofs.lemmas.Grind.{common_steps}
use Rattle.std.proofs.Common.{arith}
use Rattle.varisat_present.proofs.PlacedClauses.{count_more, count_same, at_in_slice, none_in_slice}
use Rattle.varisat_rat.proofs.present.PresentClauses.len.Goals as goal

pub loop-place-preserved-then-not-has_clause : goal.loop-place-preserved-then-not-has_clause
loop-place-preserved-then-not-has_clause g c = (
  count_same c.self.inside.places.items c.loop-place.place c.loop-place.count
      (none_in_slice c.deref.result.now c.self.inside.places.items c.loop-place.place c.deref.ensures.value
      (c.has_clause.ensures.no c.if-not-has_clause.true)) c.loop-place.invariant.0,
  omega (arith, c.loop-place.invariant.1),
)

pub loop-place-preserved : goal.loop-place-preserved
loop-place-preserved g c =
    let (d, e) = c.has_clause.ensures.yes c.if-not-has_clause.false in (
      count_more c.self.inside.places.items c.loop-place.place c.loop-place.count d
          (at_in_slice c.deref.result.now c.self.inside.places.items c.loop-place.place d c.deref.ensures.value e) c.loop-place.invariant.0,
      omega
          (arith, c.loop-place.invariant.1),
    )

pub returns : goal.returns
returns g c = grind (arith, common_steps)
