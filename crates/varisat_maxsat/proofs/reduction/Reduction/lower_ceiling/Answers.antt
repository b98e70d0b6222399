use Rattle.std.proofs.Common.{arith}
use Rattle.varisat_maxsat.proofs.Below.{ceiling-step}
use Rattle.varisat_maxsat.proofs.reduction.Reduction.lower_ceiling.Goals as goal

pub returns : goal.returns
returns g c = rw (← c.self.view_is) (λ p st. ceiling-step p _ _ (omega arith) st)
