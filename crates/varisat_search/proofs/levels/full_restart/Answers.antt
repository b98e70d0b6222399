use Rattle.std.proofs.lemmas.Grind.{common_steps}
use Rattle.std.proofs.Common.{arith}
use Rattle.varisat_search.proofs.levels.full_restart.Goals as goal

pub returns-clause-undecided : goal.returns-clause-undecided
returns-clause-undecided g c = grind (arith, common_steps)
