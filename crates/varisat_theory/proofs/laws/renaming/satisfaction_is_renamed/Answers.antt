use Rattle.varisat_theory.proofs.journals.Renaming.{satisfies_renamed, renamed_satisfies}
use Rattle.varisat_theory.proofs.laws.renaming.satisfaction_is_renamed.Goals as goal

pub returns : goal.returns
returns c = λ f k a d. (satisfies_renamed f k a d, renamed_satisfies f k a d)
