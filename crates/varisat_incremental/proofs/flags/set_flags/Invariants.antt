use Rattle.std.proofs.Common.{take}
use Rattle.varisat_incremental.specs.Flags.{AreFlagged, AreAmong}
use Rattle.varisat_incremental.proofs.flags.set_flags.Given as goal

abbrev pub invariant-loop-lit : goal.invariant-loop-lit
invariant-loop-lit g l = record {
  keeps : AreAmong l.fn.flags.items l.flags.items;
  sets : AreFlagged l.flags.items (take l.lit-index l.lits);
}
