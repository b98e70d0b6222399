use Rattle.std.proofs.Common.{refl}
use Rattle.varisat_theory.specs.inside.Luby.{luby}
use Rattle.varisat_theory.proofs.laws.luby.luby_starts.Goals as goal

pub returns : goal.returns
unfolding luby
returns c = (refl, refl, refl, refl)
