use Rattle.varisat_analysis.proofs.analyze_conflict.learn.Given as goal

abbrev pub ghost-resolve : goal.ghost-resolve
ghost-resolve g a = g.s

abbrev pub ghost-minimize : goal.ghost-minimize
ghost-minimize g a = g.s

abbrev pub ghost-put_highest_first : goal.ghost-put_highest_first
ghost-put_highest_first g a = g.s
