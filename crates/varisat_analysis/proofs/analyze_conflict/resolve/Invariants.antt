use Rattle.varisat_analysis.specs.Marks.{marking}
use Rattle.varisat_analysis.proofs.AnalysisWalk.{Walk}
use Rattle.varisat_analysis.proofs.analyze_conflict.resolve.Given as goal

abbrev pub ghost-add_literals : goal.ghost-add_literals
ghost-add_literals g a = g.s

abbrev pub ghost-add_reason : goal.ghost-add_reason
ghost-add_reason g a = g.s

abbrev pub invariant-places : goal.invariant-places
invariant-places g l = Walk g.s l.fn.conflict (marking l.scratch l.var_flags) l.count l.place

abbrev pub decreases-places : goal.decreases-places
decreases-places g l = l.place
