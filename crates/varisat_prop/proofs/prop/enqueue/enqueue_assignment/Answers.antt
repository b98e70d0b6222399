use Rattle.std.proofs.Common.{arith}
use Rattle.std.proofs.lemmas.Grind.{common_steps}
use Rattle.varisat_prop.proofs.prop.enqueue.enqueue_assignment.Goals as goal

pub returns-clause-view : goal.returns-clause-view
returns-clause-view g c = grind (arith, common_steps)
