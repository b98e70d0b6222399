use Rattle.std.proofs.Common.{◌≡◌, length}
use Rattle.varisat_tests_search.proofs.tests.searches.prefer_lower.Given as goal

abbrev pub invariant-loop-index : goal.invariant-loop-index
invariant-loop-index g l = record { count : length l.vsids.activity ≡ length l.fn.vsids.activity; available : l.vsids.available ≡ l.fn.vsids.available }

abbrev pub invariant-loop-bump : goal.invariant-loop-bump
invariant-loop-bump g l = record { count : length l.vsids.activity ≡ length l.fn.vsids.activity; available : l.vsids.available ≡ l.fn.vsids.available }

abbrev pub invariant-loop-decay : goal.invariant-loop-decay
invariant-loop-decay g l = record { count : length l.vsids.activity ≡ length l.fn.vsids.activity; available : l.vsids.available ≡ l.fn.vsids.available }
