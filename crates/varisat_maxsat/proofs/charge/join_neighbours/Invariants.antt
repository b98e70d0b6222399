use Rattle.std.proofs.Common.{take}
use Rattle.varisat_maxsat.specs.inside.Charges.{Exchanges}
use Rattle.varisat_maxsat.proofs.charge.join_neighbours.Given as goal

abbrev pub invariant-loop-charge : goal.invariant-loop-charge
invariant-loop-charge g l = Exchanges (take l.charge-index l.charges) l.due l.joined.items
