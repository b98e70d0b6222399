use Rattle.std.proofs.Common.{refl}
use Rattle.varisat_maxsat.proofs.Standing.{stands-optimal}
use Rattle.varisat_maxsat.proofs.Below.{found-solution}
use Rattle.varisat_maxsat.proofs.reduction.Reduction.values.Goals as goal

pub returns-clause-solution : goal.returns-clause-solution
returns-clause-solution g c = rw (← c.self.view_is) (λ p st. found-solution p _ _ _ _ c.in_ok-values.ensures refl c.truncate.ensures.items st)

pub returns-clause-optimum : goal.returns-clause-optimum
returns-clause-optimum g c = rw (← c.self.view_is) (λ p st. stands-optimal p _ _ _ _ c.in_ok-values.ensures refl c.truncate.ensures.items st)
