use Rattle.std.proofs.Common.{◌+◌, length}
use Rattle.varisat_analysis.specs.Marks.{marking}
use Rattle.varisat_analysis.specs.Redundancy.{count_unmarked}
use Rattle.varisat_analysis.proofs.AnalysisSearch.{Search}
use Rattle.varisat_analysis.proofs.analyze_conflict.is_redundant.Given as goal

abbrev pub ghost-mark_causes : goal.ghost-mark_causes
ghost-mark_causes g a = g.s

abbrev pub invariant-search : goal.invariant-search
invariant-search g l = Search g.s l.fn.lit (marking l.fn.scratch l.fn.var_flags) (marking l.scratch l.var_flags)

abbrev pub decreases-search : goal.decreases-search
decreases-search g l = count_unmarked l.var_flags + length l.scratch.stack.items
