use Rattle.varisat_search.specs.Contexts.{view}
use Rattle.varisat_search.proofs.learning.LeastHeld.{anything-for}
use Rattle.varisat_tests_search.proofs.tests.scheduled.scheduled_step.Goals as goal

pub schedule_step-requires-clause-holds : goal.schedule_step-requires-clause-holds
schedule_step-requires-clause-holds g c = anything-for (λ held. Unit {0}) (λ held. tt) (view c.args.ctx.now)
