use Rattle.std.proofs.Common.{◌<◌, length, Some, sym, ap, ◌∙◌, arith}
use Rattle.varisat_present.specs.Places.{literals_there}
use Rattle.varisat_present.proofs.PlacedClauses.{at_read, at_past}
use Rattle.varisat_present.proofs.places.clause_at.Goals as goal

pub returns-then-place-places : goal.returns-then-place-places
returns-then-place-places g c = at_past c.args.places.now c.args.place (omega (arith, c.if-place-places.true))

pub returns-in-None : goal.returns-in-None
returns-in-None g c =
    let short : c.args.place < length c.args.places.now = omega (arith, c.if-place-places.false) in
    at_read c.args.places.now c.args.place c.index-places-place.result short c.index-places-place.is ∙ ap literals_there c.in-None.is

pub returns-in-Some : goal.returns-in-Some
returns-in-Some g c =
    let short : c.args.place < length c.args.places.now = omega (arith, c.if-place-places.false) in
    at_read c.args.places.now c.args.place c.index-places-place.result short c.index-places-place.is ∙ ap literals_there c.in-Some.is
    ∙ ap Some (sym c.as_slice.ensures.value)
