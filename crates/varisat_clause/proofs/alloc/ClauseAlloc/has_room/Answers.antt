use Rattle.std.proofs.lemmas.Grind.{common_steps}
use Rattle.std.proofs.Common.{arith}
use Rattle.varisat_clause.proofs.alloc.ClauseAlloc.has_room.Goals as goal

pub returns-then-words : goal.returns-then-words
returns-then-words g c = grind (arith, common_steps)

pub returns-else-words : goal.returns-else-words
returns-else-words g c = grind (arith, common_steps)
