use Rattle.varisat_maxsat.proofs.Exchanging.{exchanges-none, exchanges-next}
use Rattle.varisat_maxsat.proofs.charge.join_neighbours.Goals as goal

pub loop-charge-init : goal.loop-charge-init
loop-charge-init g c = exchanges-none _ c.new-joined.ensures.items

pub loop-charge-preserved : goal.loop-charge-preserved
loop-charge-preserved g c =
    exchanges-next _ _ _ _ c.charge-item.result _ _ _ c.loop-charge-test.true c.charge-item.is c.in_ok-due.ensures c.in_ok-more.ensures c.loop-charge.invariant
