use Rattle.std.proofs.Common.{arith}
use Rattle.std.proofs.lemmas.Grind.{common_steps}
use Rattle.varisat_clause.proofs.alloc.ClauseAlloc.len.Goals as goal

pub returns-clause-count : goal.returns-clause-count
returns-clause-count g c = grind (arith, common_steps)
