use Rattle.varisat_search.specs.Contexts.{view}
use Rattle.varisat_search.proofs.assumptions.enqueue_assumption.Given as goal

abbrev pub ghost-find_failed_core : goal.ghost-find_failed_core
ghost-find_failed_core g a = view a.ctx.now
