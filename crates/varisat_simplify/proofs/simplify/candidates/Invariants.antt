use Rattle.std.proofs.Common.{◌≡◌}
use Rattle.varisat_simplify.proofs.simplify.candidates.Given as goal

abbrev pub invariant-loop : goal.invariant-loop
invariant-loop g l = l.db ≡ l.fn.db
