use Rattle.varisat_analysis.proofs.analyze_conflict.put_highest_first.Given as goal

abbrev pub ghost-highest_place : goal.ghost-highest_place
ghost-highest_place g a = g.s
