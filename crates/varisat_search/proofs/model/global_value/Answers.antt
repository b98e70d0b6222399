use Rattle.std.proofs.lemmas.Grind.{common_steps}
use Rattle.std.proofs.Common.{arith}
use Rattle.varisat_search.proofs.model.global_value.Goals as goal

pub returns-in-Some-2 : goal.returns-in-Some-2
returns-in-Some-2 g c = grind (arith, common_steps)

pub returns-in-None : goal.returns-in-None
returns-in-None g c = grind (arith, common_steps)
