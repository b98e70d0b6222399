use Rattle.varisat_search.specs.Contexts.{view}
use Rattle.varisat_search.proofs.learning.LeastHeld.{anything-for}
use Rattle.varisat_tests_search.proofs.tests.collecting.reduced.Goals as goal

pub reduce_locals-requires-clause-holds : goal.reduce_locals-requires-clause-holds
reduce_locals-requires-clause-holds g c = anything-for (λ held. Unit {0}) (λ held. tt) (view c.find_model.new.ctx)
