use Rattle.varisat_plain.proofs.ClauseStatuses.{Seen}
use Rattle.varisat_plain.proofs.propagation.status_of.Given as goal

abbrev pub invariant-loop-l : goal.invariant-loop-l
invariant-loop-l l = Seen l.known l.clause l.l-index l.left
