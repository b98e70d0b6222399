use Rattle.std.proofs.Common.{arith}
use Rattle.std.proofs.lemmas.Grind.{common_steps}
use Rattle.varisat_vsids.proofs.vsids.Vsids.var_count.Goals as goal

pub returns-clause-available : goal.returns-clause-available
returns-clause-available g c = grind (arith, common_steps)
