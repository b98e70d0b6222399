use Rattle.varisat_search.specs.Contexts.{IsReady}
use Rattle.varisat_tests_search.proofs.tests.loading.are_after.Given as goal

abbrev pub invariant-loop-clause : goal.invariant-loop-clause
invariant-loop-clause g l = IsReady l.ctx
