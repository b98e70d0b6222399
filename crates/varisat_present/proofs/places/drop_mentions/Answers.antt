use Rattle.std.proofs.Common.{refl, arith}
use Rattle.varisat_present.proofs.PlacedClauses.{dropped_start, dropped_same, dropped_out, dropped_all}
use Rattle.varisat_present.proofs.places.drop_mentions.Goals as goal

pub loop-place-init : goal.loop-place-init
loop-place-init g c = dropped_start c.args.var c.args.places.now

pub loop-place-preserved-then-not-mentions_at : goal.loop-place-preserved-then-not-mentions_at
loop-place-preserved-then-not-mentions_at g c = dropped_same c.args.var c.loop-place.place c.args.places.now c.loop-place.places
    (c.mentions_at.ensures.no c.if-not-mentions_at.true) c.loop-place.invariant

pub loop-place-preserved : goal.loop-place-preserved
loop-place-preserved g c = dropped_out c.args.var c.loop-place.place c.args.places.now c.loop-place.places _
    (c.mentions_at.ensures.yes c.if-not-mentions_at.false) refl c.loop-place.invariant

pub returns-clause-stays : goal.returns-clause-stays
returns-clause-stays g c = c.loop-place.invariant.stays

pub returns-clause-dropped : goal.returns-clause-dropped
returns-clause-dropped g c = dropped_all c.args.var c.loop-place.place c.args.places.now c.loop-place.places (omega (arith, c.loop-place-test.false)) c.loop-place.invariant
