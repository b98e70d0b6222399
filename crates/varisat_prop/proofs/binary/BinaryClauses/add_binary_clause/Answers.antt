use Rattle.std.proofs.Common.{arith}
use Rattle.std.proofs.lemmas.Grind.{common_steps}
use Rattle.varisat_prop.proofs.binary.BinaryClauses.add_binary_clause.Goals as goal

pub add_implied-requires : goal.add_implied-requires
add_implied-requires g c = grind (arith, common_steps)

pub add_implied-requires-2 : goal.add_implied-requires-2
add_implied-requires-2 g c = grind (arith, common_steps)

pub returns : goal.returns
returns g c = grind (arith, common_steps)
