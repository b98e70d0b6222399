use Rattle.std.proofs.Common.{take}
use Rattle.varisat_analysis.proofs.AnalysisFlags.{IsCleared}
use Rattle.varisat_analysis.proofs.analyze_conflict.clear_flags.Given as goal

abbrev pub invariant-loop-var : goal.invariant-loop-var
invariant-loop-var l = IsCleared (take l.var-index l.vars) l.fn.var_flags l.var_flags
