use Rattle.std.proofs.Common.{take}
use Rattle.varisat_rules.specs.inside.Noting.{NotesPositions}
use Rattle.varisat_rules.proofs.positions.note_all.Given as goal

abbrev pub invariant-loop-index : goal.invariant-loop-index
invariant-loop-index g l = NotesPositions l.names l.positions (take l.index l.clause)
