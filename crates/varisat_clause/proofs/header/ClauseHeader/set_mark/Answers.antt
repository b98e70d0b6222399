use Rattle.std.proofs.Common.{arith}
use Rattle.std.proofs.lemmas.Grind.{common_steps}
use Rattle.varisat_clause.proofs.header.ClauseHeader.set_mark.Goals as goal

pub returns : goal.returns
returns c = grind (arith, common_steps)
