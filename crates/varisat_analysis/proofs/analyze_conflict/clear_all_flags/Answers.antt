use Rattle.std.proofs.lemmas.Grind.{common_steps}
use Rattle.std.proofs.Common.{arith}
use Rattle.varisat_analysis.proofs.analyze_conflict.clear_all_flags.Goals as goal

pub returns : goal.returns
returns c = grind (arith, common_steps)
