use Rattle.std.proofs.lemmas.Grind.{common_steps}
use Rattle.std.proofs.Common.{arith}
use Rattle.varisat_names.proofs.variables.iter.UserVarsIterator.next.Goals as goal

pub returns-then-is_some-clause-steps : goal.returns-then-is_some-clause-steps
returns-then-is_some-clause-steps g c = grind (arith, common_steps)

pub returns-then-is_some-clause-goes : goal.returns-then-is_some-clause-goes
returns-then-is_some-clause-goes g c = grind (arith, common_steps)

pub names-preserved : goal.names-preserved
names-preserved g c = grind (arith, common_steps)

pub returns-clause-steps : goal.returns-clause-steps
returns-clause-steps g c = grind (arith, common_steps)
