use Rattle.varisat_simplify.proofs.UnloadLemmas.{others_kept}
use Rattle.varisat_simplify.proofs.laws.keeps_others.Goals as goal

pub returns : goal.returns
returns c = others_kept
