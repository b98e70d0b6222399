use Rattle.varisat_simplify.proofs.UnloadLemmas.{derives_made}
use Rattle.varisat_simplify.proofs.laws.derives_behind.Goals as goal

pub returns : goal.returns
returns c = derives_made
