use Rattle.varisat_theory.proofs.clauses.Lines.{refutes_sound}
use Rattle.varisat_theory.proofs.laws.soundness.refutation_is_sound.Goals as goal

pub returns : goal.returns
returns c = refutes_sound
