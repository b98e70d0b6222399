use Rattle.std.proofs.Common.{arith}
use Rattle.std.proofs.lemmas.Grind.{common_steps}
use Rattle.varisat_vsids.proofs.vsids.VsidsIterator.next.Goals as goal

pub returns-clause-goes : goal.returns-clause-goes
returns-clause-goes g c = grind (arith, common_steps)
