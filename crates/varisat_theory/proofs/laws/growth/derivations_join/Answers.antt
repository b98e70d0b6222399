use Rattle.varisat_theory.proofs.clauses.Lines.{derivations_join}
use Rattle.varisat_theory.proofs.laws.growth.derivations_join.Goals as goal

pub returns : goal.returns
returns c = derivations_join
