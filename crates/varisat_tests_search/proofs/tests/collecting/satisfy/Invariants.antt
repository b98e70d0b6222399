use Rattle.varisat_search.specs.Contexts.{IsReady}
use Rattle.varisat_tests_search.proofs.tests.collecting.satisfy.Given as goal

abbrev pub invariant-loop-unit : goal.invariant-loop-unit
invariant-loop-unit g l = IsReady l.ctx
