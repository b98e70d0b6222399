use Rattle.varisat_theory.proofs.clauses.Sound.{not_both_answers}
use Rattle.varisat_theory.proofs.laws.soundness.answers_exclude.Goals as goal

pub returns : goal.returns
returns c = not_both_answers
