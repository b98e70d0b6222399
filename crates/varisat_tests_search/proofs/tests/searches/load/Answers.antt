use Rattle.varisat_search.specs.Contexts.{view}
use Rattle.varisat_search.proofs.learning.LeastHeld.{anything-with}
use Rattle.varisat_tests_search.proofs.tests.searches.load.Goals as goal

pub load_clause-requires-clause-holds : goal.load_clause-requires-clause-holds
load_clause-requires-clause-holds g c n = anything-with (λ held. Unit {0}) (λ held. tt) (view c.make_all_available.new.ctx) c.args.lits.now
