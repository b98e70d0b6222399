use Rattle.varisat_analysis.proofs.AnalysisResult.{Highest}
use Rattle.varisat_analysis.proofs.analyze_conflict.highest_place.Given as goal

abbrev pub invariant-loop-place : goal.invariant-loop-place
invariant-loop-place g l = Highest g.s l.clause l.highest l.place
