use Rattle.varisat_theory.proofs.clauses.RatLines.{rat_sound}
use Rattle.varisat_theory.proofs.laws.soundness.rat_is_sound.Goals as goal

pub returns : goal.returns
returns c = rat_sound
