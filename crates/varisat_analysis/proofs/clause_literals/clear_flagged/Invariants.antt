use Rattle.varisat_analysis.proofs.CopiedLiterals.{Cleared}
use Rattle.varisat_analysis.proofs.clause_literals.clear_flagged.Given as goal

abbrev pub invariant-loop-lit : goal.invariant-loop-lit
invariant-loop-lit l = Cleared l.lits l.lit-index l.flags
