use Rattle.std.proofs.lemmas.Grind.{common_steps}
use Rattle.std.proofs.Common.{arith}
use Rattle.varisat_proof.proofs.checker.check.Checker.add_formula.Goals as goal

pub loop-clause-preserved : goal.loop-clause-preserved
loop-clause-preserved g c = grind (arith, common_steps)
