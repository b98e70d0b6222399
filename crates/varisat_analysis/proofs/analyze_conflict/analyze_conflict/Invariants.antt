use Rattle.varisat_analysis.proofs.analyze_conflict.analyze_conflict.Given as goal

abbrev pub ghost-learn_and_clear : goal.ghost-learn_and_clear
ghost-learn_and_clear g a = g.s
