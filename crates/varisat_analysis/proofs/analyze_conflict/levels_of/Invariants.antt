use Rattle.varisat_analysis.proofs.analyze_conflict.levels_of.Given as goal

abbrev pub invariant-loop-lit : goal.invariant-loop-lit
invariant-loop-lit g l = Unit {0}
