use Rattle.std.proofs.lemmas.Grind.{common_steps}
use Rattle.std.proofs.Common.{arith}
use Rattle.varisat_lines.proofs.writer.push_literal.Goals as goal

pub returns : goal.returns
returns g c = grind (arith, common_steps)
