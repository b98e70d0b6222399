use Rattle.varisat_analysis.proofs.analyze_conflict.add_reason.Given as goal

abbrev pub ghost-add_literals : goal.ghost-add_literals
ghost-add_literals g a = g.s
