use Rattle.varisat_theory.proofs.clauses.Lines.{derives_derivation, derives_present, derives_whole}
use Rattle.varisat_theory.proofs.laws.soundness.derivation_is_line_by_line.Goals as goal

pub returns : goal.returns
returns c = λ P lines Q. ((λ d. (derives_derivation P lines Q d, derives_present P lines Q d)), (λ w. derives_whole P lines Q w.1 w.0.1))
