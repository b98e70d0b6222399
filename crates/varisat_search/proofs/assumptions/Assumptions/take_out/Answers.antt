use Rattle.std.proofs.lemmas.Grind.{common_steps}
use Rattle.std.proofs.Common.{arith}
use Rattle.varisat_search.proofs.assumptions.Assumptions.take_out.Goals as goal

pub returns : goal.returns
returns g c = grind (arith, common_steps)
