use Rattle.varisat_search.specs.Contexts.{view}
use Rattle.varisat_search.proofs.cdcl.learn_from_conflict.Given as goal

abbrev pub ghost-analyze : goal.ghost-analyze
ghost-analyze g a = view a.ctx.now
