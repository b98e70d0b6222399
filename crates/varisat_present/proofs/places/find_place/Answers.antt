use Rattle.std.proofs.Common.{arith}
use Rattle.varisat_present.proofs.PlacedClauses.{absent_on, absent_all}
use Rattle.varisat_present.proofs.places.find_place.Goals as goal

pub returns-then-is_equal_at : goal.returns-then-is_equal_at
returns-then-is_equal_at g c = c.is_equal_at.ensures.yes c.if-is_equal_at.true

pub loop-place-preserved : goal.loop-place-preserved
loop-place-preserved g c = absent_on c.args.places.now c.loop-place.place c.args.clause.now
    (c.is_equal_at.ensures.no c.if-is_equal_at.false) c.loop-place.invariant

pub returns : goal.returns
returns g c = absent_all c.args.places.now c.loop-place.place c.args.clause.now (omega (arith, c.loop-place-test.false)) c.loop-place.invariant
