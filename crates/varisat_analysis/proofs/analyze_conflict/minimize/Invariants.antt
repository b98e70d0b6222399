use Rattle.varisat_analysis.specs.Marks.{marking}
use Rattle.varisat_analysis.proofs.AnalysisMinimize.{Minimizing}
use Rattle.varisat_analysis.proofs.analyze_conflict.minimize.Given as goal

abbrev pub ghost-is_redundant : goal.ghost-is_redundant
ghost-is_redundant g a = g.s

abbrev pub invariant-loop-place : goal.invariant-loop-place
invariant-loop-place g l = Minimizing g.s (marking l.fn.scratch l.fn.var_flags) (marking l.scratch l.var_flags) l.kept l.place
