use Rattle.std.proofs.Common.{arith}
use Rattle.std.proofs.lemmas.Grind.{common_steps}
use Rattle.varisat_database.proofs.lists.push_lists.Goals as goal

pub loop-added-preserved : goal.loop-added-preserved
loop-added-preserved g c = grind (arith, common_steps)
