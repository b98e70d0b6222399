use Rattle.varisat_theory.proofs.clauses.Lines.{beginning_derives}
use Rattle.varisat_theory.proofs.laws.growth.beginning_derives.Goals as goal

pub returns : goal.returns
returns c = beginning_derives
