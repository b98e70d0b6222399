use Rattle.varisat_theory.proofs.bounds.CallBounds.{call_bounded}
use Rattle.varisat_theory.proofs.laws.rank.call_is_bounded.Goals as goal

pub returns : goal.returns
returns c = call_bounded
