use Rattle.varisat_search.specs.Contexts.{IsReady}
use Rattle.varisat_tests_search.proofs.tests.collecting.are_laid_out.Given as goal

abbrev pub invariant-loop-group : goal.invariant-loop-group
invariant-loop-group g l = IsReady l.ctx
