use Rattle.std.proofs.Common.{arith}
use Rattle.std.proofs.lemmas.Grind.{common_steps}
use Rattle.varisat_vsids.proofs.heap.activity_at.Goals as goal

pub bounds-activity-index : goal.bounds-activity-index
bounds-activity-index c = grind (arith, common_steps)

pub returns : goal.returns
returns c = grind (arith, common_steps)
