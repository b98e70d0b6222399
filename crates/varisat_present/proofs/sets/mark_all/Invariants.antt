use Rattle.varisat_present.proofs.MarkedLists.{AreMarkedTo}
use Rattle.varisat_present.proofs.sets.mark_all.Given as goal

abbrev pub invariant-loop-l : goal.invariant-loop-l
invariant-loop-l g l = AreMarkedTo l.l-index l.literals l.marks
