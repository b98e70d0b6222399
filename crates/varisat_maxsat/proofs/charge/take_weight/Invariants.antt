use Rattle.std.proofs.Common.{take}
use Rattle.varisat_maxsat.specs.inside.Charges.{TakesWeight}
use Rattle.varisat_maxsat.proofs.charge.take_weight.Given as goal

abbrev pub invariant-loop-charge : goal.invariant-loop-charge
invariant-loop-charge g l = TakesWeight l.weight (take l.charge-index l.charges) l.fn.kept.items l.kept.items l.pending.items
