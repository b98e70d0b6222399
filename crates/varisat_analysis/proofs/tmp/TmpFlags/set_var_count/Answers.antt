use Rattle.std.proofs.lemmas.Grind.{common_steps}
use Rattle.std.proofs.Common.{arith}
use Rattle.varisat_analysis.proofs.tmp.TmpFlags.set_var_count.Goals as goal

pub returns : goal.returns
returns g c = grind (arith, common_steps)
