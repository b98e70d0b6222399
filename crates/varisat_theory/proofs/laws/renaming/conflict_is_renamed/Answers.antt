use Rattle.varisat_theory.proofs.journals.Renaming.{conflicts_renamed}
use Rattle.varisat_theory.proofs.laws.renaming.conflict_is_renamed.Goals as goal

pub returns : goal.returns
returns c = conflicts_renamed
