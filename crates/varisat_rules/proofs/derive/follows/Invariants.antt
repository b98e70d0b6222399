use Rattle.varisat_rules.proofs.DeriveLemmas.{Leads}
use Rattle.varisat_rules.proofs.derive.follows.Given as goal

abbrev pub invariant-loop-place : goal.invariant-loop-place
invariant-loop-place g l = Leads l.db l.but l.clause l.falses.items
