use Rattle.varisat_search.specs.Contexts.{IsReady}
use Rattle.varisat_tests_search.proofs.tests.scheduled.are_after.Given as goal

abbrev pub invariant-loop-after : goal.invariant-loop-after
invariant-loop-after g l = IsReady l.ctx
