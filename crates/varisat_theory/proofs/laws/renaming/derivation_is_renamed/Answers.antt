use Rattle.varisat_theory.proofs.journals.Renaming.{derives_renamed}
use Rattle.varisat_theory.proofs.laws.renaming.derivation_is_renamed.Goals as goal

pub returns : goal.returns
returns c = derives_renamed
