use Rattle.std.proofs.Common.{arith}
use Rattle.std.proofs.lemmas.Grind.{common_steps}
use Rattle.varisat_clause.proofs.alloc.append.Goals as goal

pub returns-then-not-done-clause-items : goal.returns-then-not-done-clause-items
returns-then-not-done-clause-items g c = grind (arith, common_steps)

pub returns-else-not-done-clause-items : goal.returns-else-not-done-clause-items
returns-else-not-done-clause-items g c = grind (arith, common_steps)
