use Rattle.varisat_theory.proofs.journals.Renaming.{refutes_renamed}
use Rattle.varisat_theory.proofs.laws.renaming.refutation_is_renamed.Goals as goal

pub returns : goal.returns
returns c = refutes_renamed
