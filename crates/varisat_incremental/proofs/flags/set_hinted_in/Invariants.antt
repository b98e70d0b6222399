use Rattle.varisat_incremental.specs.Flags.{AreAmong}
use Rattle.varisat_incremental.proofs.flags.set_hinted_in.Given as goal

abbrev pub invariant-loop-lit : goal.invariant-loop-lit
invariant-loop-lit g l = AreAmong l.fn.flags.items l.flags.items
