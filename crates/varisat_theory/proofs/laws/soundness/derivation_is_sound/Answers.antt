use Rattle.varisat_theory.proofs.clauses.Sound.{derives_sound}
use Rattle.varisat_theory.proofs.laws.soundness.derivation_is_sound.Goals as goal

pub returns : goal.returns
returns c = derives_sound
