use Rattle.std.proofs.Common.{take}
use Rattle.varisat_client.specs.promises.Pasts.{ClientPast}
use Rattle.varisat_maxsat.specs.inside.Charges.{IsSplit}
use Rattle.varisat_maxsat.specs.inside.Reductions.{IsReady}
use Rattle.varisat_maxsat.proofs.feeding.divide.Given as goal

abbrev pub invariant-loop-charge : goal.invariant-loop-charge
invariant-loop-charge g l = (p : ClientPast) → IsReady l.client p → IsSplit p.core (take l.charge-index l.charges) l.kept.items l.failed.items
