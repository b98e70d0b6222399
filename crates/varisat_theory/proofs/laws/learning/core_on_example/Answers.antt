use Rattle.std.proofs.Common.{inl, refl}
use Rattle.varisat_theory.proofs.clauses.Example.{core_earlier, core_ends, core_there}
use Rattle.varisat_theory.proofs.laws.learning.core_on_example.Goals as goal

pub returns : goal.returns
returns c = (inl refl, core_earlier, core_ends, core_there)
