use Rattle.varisat_maxsat.proofs.Exchanging.{puts-nothing, puts-one}
use Rattle.varisat_maxsat.proofs.charge.put_charge.Goals as goal

pub returns-then-weight-eq0 : goal.returns-then-weight-eq0
returns-then-weight-eq0 g c = puts-nothing _ _ _ c.if-weight-eq0.true

pub returns : goal.returns
returns g c = puts-one _ _ _ _ c.in_ok-push.ensures.items
