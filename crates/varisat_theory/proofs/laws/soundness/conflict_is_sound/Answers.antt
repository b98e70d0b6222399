use Rattle.varisat_theory.proofs.clauses.Sound.{conflicts_sound}
use Rattle.varisat_theory.proofs.laws.soundness.conflict_is_sound.Goals as goal

pub returns : goal.returns
returns c = λ P base k w. conflicts_sound P base w.0 w.1 w.2 k
