use Rattle.varisat_search.proofs.assumptions.find_failed_core.Given as goal

abbrev pub ghost-find_core : goal.ghost-find_core
ghost-find_core g a = g.s
