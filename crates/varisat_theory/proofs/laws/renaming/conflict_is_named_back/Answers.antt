use Rattle.varisat_theory.proofs.journals.Renaming.{conflicts_unrenamed}
use Rattle.varisat_theory.proofs.laws.renaming.conflict_is_named_back.Goals as goal

pub returns : goal.returns
returns c = conflicts_unrenamed
