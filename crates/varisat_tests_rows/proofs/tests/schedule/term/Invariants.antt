-- The next term's index is one above the number of terms that were given.
use Rattle.std.proofs.Common.{◌≡◌, suc}
use Rattle.varisat_tests_rows.proofs.tests.schedule.term.Given as goal

abbrev pub invariant-loop-index : goal.invariant-loop-index
invariant-loop-index l = l.sequence ≡ suc l._index
