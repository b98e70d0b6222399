use Rattle.varisat_rules.proofs.FlowLemmas.{Collecting}
use Rattle.varisat_rules.proofs.eliminate.collect.Given as goal

abbrev pub invariant-loop-place : goal.invariant-loop-place
invariant-loop-place g l = Collecting l.db l.lit l.places l.place-index l.out.items
