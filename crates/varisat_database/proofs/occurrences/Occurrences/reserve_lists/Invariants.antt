use Rattle.std.proofs.Common.{◌≡◌}
use Rattle.varisat_database.proofs.occurrences.Occurrences.reserve_lists.Given as goal

abbrev pub invariant-loop-index : goal.invariant-loop-index
invariant-loop-index g l = l.self ≡ l.fn.self
