use Rattle.std.proofs.lemmas.Grind.{common_steps}
use Rattle.std.proofs.Common.{arith}
use Rattle.varisat_analysis.proofs.analyze_conflict.list_reason.Goals as goal

pub returns-in_ok-push-in-Binary : goal.returns-in_ok-push-in-Binary
returns-in_ok-push-in-Binary g c = grind (arith, common_steps)
