use Rattle.varisat_search.proofs.assumptions.Assumptions.find_core.Given as goal

abbrev pub ghost-analyze_assumption_conflict : goal.ghost-analyze_assumption_conflict
ghost-analyze_assumption_conflict g a = g.s
