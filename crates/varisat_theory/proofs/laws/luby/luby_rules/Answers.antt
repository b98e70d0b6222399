use Rattle.varisat_theory.proofs.bounds.Luby.{luby-last, luby-second}
use Rattle.varisat_theory.proofs.laws.luby.luby_rules.Goals as goal

pub returns : goal.returns
returns c = (luby-last, luby-second)
