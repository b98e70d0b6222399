use Rattle.varisat_theory.proofs.bounds.Luby.{luby_determined}
use Rattle.varisat_theory.proofs.laws.luby.luby_is_determined.Goals as goal

pub returns : goal.returns
returns c = luby_determined
