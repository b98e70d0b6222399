use Rattle.std.proofs.Common.{take}
use Rattle.varisat_present.specs.Places.{LosesMarks}
use Rattle.varisat_present.proofs.known.unmark.Given as goal

abbrev pub invariant-loop-l : goal.invariant-loop-l
invariant-loop-l g l = LosesMarks (take l.l-index l.literals) l.fn.marks.items l.marks.items
