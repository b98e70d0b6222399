use Rattle.varisat_maxsat.proofs.Standing.{hard-step}
use Rattle.varisat_maxsat.proofs.reduction.Reduction.add_hard.Goals as goal

pub returns : goal.returns
returns g c = rw (← c.self.view_is) (λ p st. hard-step p _ _ _ c.in_ok-ensure_below.ensures c.in_ok-give.ensures st)
