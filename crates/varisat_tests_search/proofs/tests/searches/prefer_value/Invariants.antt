use Rattle.std.proofs.Common.{◌≡◌}
use Rattle.varisat_tests_search.proofs.tests.searches.prefer_value.Given as goal

abbrev pub invariant-loop-index : goal.invariant-loop-index
invariant-loop-index g l = l.assignment.current ≡ l.fn.assignment.current
