use Rattle.varisat_theory.proofs.clauses.Lines.{derives_beside}
use Rattle.varisat_theory.proofs.laws.growth.derivation_grows.Goals as goal

pub returns : goal.returns
returns c = derives_beside
