use Rattle.varisat_clause.specs.Stores.{IsSound}
use Rattle.varisat_tests_rows.proofs.tests.store.changed_words.Given as goal

abbrev pub invariant-changes : goal.invariant-changes
invariant-changes l = IsSound l.alloc
