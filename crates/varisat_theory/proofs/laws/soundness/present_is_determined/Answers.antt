use Rattle.varisat_theory.proofs.clauses.Lines.{present_unique}
use Rattle.varisat_theory.proofs.laws.soundness.present_is_determined.Goals as goal

pub returns : goal.returns
returns c = present_unique
