use Rattle.std.proofs.Common.{refl}
use Rattle.varisat_maxsat.proofs.Standing.{stands-first}
use Rattle.varisat_maxsat.proofs.reduction.Reduction.new_in.Goals as goal

pub returns : goal.returns
returns g c = stands-first _ _ c.new_in.ensures refl refl c.new.ensures.items refl
