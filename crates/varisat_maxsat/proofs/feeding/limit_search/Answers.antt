use Rattle.varisat_maxsat.proofs.Given.{limited}
use Rattle.varisat_maxsat.proofs.feeding.limit_search.Goals as goal

pub returns : goal.returns
returns g c = λ p r. limited _ _ _ _ p r (c.left_of-left.ensures p r) c.limit_steps.ensures
