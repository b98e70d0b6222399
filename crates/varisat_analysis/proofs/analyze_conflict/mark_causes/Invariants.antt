use Rattle.std.proofs.Common.{take, true}
use Rattle.varisat_analysis.specs.Marks.{marking}
use Rattle.varisat_analysis.specs.Redundancy.{Explores}
use Rattle.varisat_analysis.proofs.analyze_conflict.mark_causes.Given as goal

abbrev pub invariant-loop-lit : goal.invariant-loop-lit
invariant-loop-lit g l = Explores g.s (take l.lit-index l.lits) true (marking l.fn.scratch l.fn.var_flags) (marking l.scratch l.var_flags)

abbrev pub ghost-level_to_mark : goal.ghost-level_to_mark
ghost-level_to_mark g a = g.s
