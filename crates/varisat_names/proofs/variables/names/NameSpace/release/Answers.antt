use Rattle.std.proofs.lemmas.Grind.{common_steps}
use Rattle.std.proofs.Common.{arith}
use Rattle.varisat_names.proofs.variables.names.NameSpace.release.Goals as goal

pub returns-clause-listed : goal.returns-clause-listed
returns-clause-listed g c = grind (arith, common_steps)
