use Rattle.std.proofs.Common.{[]}
use Rattle.varisat_maxsat.specs.inside.Charges.{Divides}
use Rattle.varisat_maxsat.proofs.charge.divide_digits.Given as goal

abbrev pub invariant-digits : goal.invariant-digits
invariant-digits g l = Divides l.charges [] l.parts.items l.rest.items
