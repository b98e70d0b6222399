use Rattle.std.proofs.lemmas.Grind.{common_steps}
use Rattle.std.proofs.Common.{arith}
use Rattle.varisat_client.proofs.numbers.count_with.Goals as goal

pub loop-lit-preserved : goal.loop-lit-preserved
loop-lit-preserved c = grind (arith, common_steps)

pub returns-clause-count : goal.returns-clause-count
returns-clause-count c = grind (arith, common_steps)
