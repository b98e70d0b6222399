use Rattle.std.proofs.lemmas.Grind.{common_steps}
use Rattle.std.proofs.Common.{arith}
use Rattle.varisat_names.proofs.variables.iter.GlobalVarsIterator.next.Goals as goal

pub returns-then-not-data-clause-steps : goal.returns-then-not-data-clause-steps
returns-then-not-data-clause-steps g c = grind (arith, common_steps)

pub returns-then-not-data-clause-goes : goal.returns-then-not-data-clause-goes
returns-then-not-data-clause-goes g c = grind (arith, common_steps)

pub globals-preserved : goal.globals-preserved
globals-preserved g c = grind (arith, common_steps)

pub returns-clause-steps : goal.returns-clause-steps
returns-clause-steps g c = grind (arith, common_steps)
