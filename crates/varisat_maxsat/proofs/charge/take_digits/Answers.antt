use Rattle.varisat_maxsat.proofs.Exchanging.{divides-next}
use Rattle.varisat_maxsat.proofs.charge.take_digits.Goals as goal

pub loop-charge-preserved : goal.loop-charge-preserved
loop-charge-preserved g c =
    divides-next _ _ _ _ _ _ _ c.charge-item.result _ c.loop-charge-test.true c.charge-item.is c.digit_of-part.ensures (c.in_ok-put_charge.ensures {u = tt})
    (c.in_ok-put_charge-2.ensures {u = tt}) c.loop-charge.invariant
