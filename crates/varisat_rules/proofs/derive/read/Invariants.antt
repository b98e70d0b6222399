use Rattle.varisat_rules.proofs.DeriveLemmas.{IsRead}
use Rattle.varisat_rules.proofs.derive.read.Given as goal

abbrev pub invariant-loop-lit : goal.invariant-loop-lit
invariant-loop-lit l = IsRead l.clause l.falses l.lit-index l.left
