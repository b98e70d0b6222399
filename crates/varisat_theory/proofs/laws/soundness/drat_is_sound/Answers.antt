use Rattle.varisat_theory.proofs.clauses.RatLines.{drat_sound, drat_refutes}
use Rattle.varisat_theory.proofs.laws.soundness.drat_is_sound.Goals as goal

pub returns : goal.returns
returns c = (drat_sound, drat_refutes)
