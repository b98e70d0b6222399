use Rattle.varisat_theory.proofs.journals.Renaming.{follows_renamed}
use Rattle.varisat_theory.proofs.laws.renaming.follows_is_renamed.Goals as goal

pub returns : goal.returns
returns c = follows_renamed
