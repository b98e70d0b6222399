use Rattle.varisat_theory.proofs.clauses.Implication.{units_known}
use Rattle.varisat_theory.proofs.laws.growth.units_are_known.Goals as goal

pub returns : goal.returns
returns c = units_known
