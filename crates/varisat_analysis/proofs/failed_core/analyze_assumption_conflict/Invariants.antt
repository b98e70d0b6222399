use Rattle.varisat_analysis.proofs.failed_core.analyze_assumption_conflict.Given as goal

abbrev pub ghost-list_core : goal.ghost-list_core
ghost-list_core g a = g.s
