use Rattle.std.proofs.Common.{sym, subst}
use Rattle.varisat_maxsat.specs.promises.Problems.{IsOptimum}
use Rattle.varisat_maxsat.proofs.solving.optimum_of.Goals as goal

pub returns : goal.returns
returns g c = λ p st. subst (λ k. IsOptimum p k c.in_ok-values.values.items) (sym c.bound.ensures) (c.in_ok-values.ensures.optimum p st)
