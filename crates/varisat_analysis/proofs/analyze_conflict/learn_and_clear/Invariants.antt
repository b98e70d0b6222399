use Rattle.varisat_analysis.proofs.analyze_conflict.learn_and_clear.Given as goal

abbrev pub ghost-learn : goal.ghost-learn
ghost-learn g a = g.s
