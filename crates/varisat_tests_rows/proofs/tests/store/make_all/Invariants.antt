use Rattle.varisat_clause.specs.Databases.{Tracks}
use Rattle.varisat_tests_rows.proofs.tests.store.make_all.Given as goal

abbrev pub invariant-acts : goal.invariant-acts
invariant-acts l = Tracks l.db l.alloc
