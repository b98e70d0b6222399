use Rattle.varisat_theory.proofs.clauses.Sound.{follows_entails}
use Rattle.varisat_theory.proofs.laws.soundness.follows_entails.Goals as goal

pub returns : goal.returns
returns c = follows_entails
