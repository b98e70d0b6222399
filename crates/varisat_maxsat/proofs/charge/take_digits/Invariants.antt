use Rattle.std.proofs.Common.{take}
use Rattle.varisat_maxsat.specs.inside.Charges.{Divides}
use Rattle.varisat_maxsat.proofs.charge.take_digits.Given as goal

abbrev pub invariant-loop-charge : goal.invariant-loop-charge
invariant-loop-charge g l = Divides (take l.charge-index l.charges) l.fn.parts.items l.parts.items l.rest.items
