use Rattle.varisat_theory.proofs.journals.HeldRetirements.{same_without, without_less}
use Rattle.varisat_theory.proofs.laws.held.same_clauses_drop.Goals as goal

pub returns : goal.returns
returns c = (same_without, without_less)
