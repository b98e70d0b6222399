use Rattle.varisat_theory.proofs.steps.SearchFits.{kept_are_held}
use Rattle.varisat_theory.proofs.laws.steps.kept_are_held.Goals as goal

pub returns : goal.returns
returns c = kept_are_held
