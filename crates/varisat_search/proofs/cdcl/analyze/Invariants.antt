use Rattle.varisat_search.proofs.cdcl.analyze.Given as goal

abbrev pub ghost-analyze_conflict : goal.ghost-analyze_conflict
ghost-analyze_conflict g a = g.s
