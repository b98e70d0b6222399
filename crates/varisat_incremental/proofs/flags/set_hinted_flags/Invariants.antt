use Rattle.varisat_incremental.specs.Flags.{AreAmong}
use Rattle.varisat_incremental.proofs.flags.set_hinted_flags.Given as goal

abbrev pub invariant-loop-clause : goal.invariant-loop-clause
invariant-loop-clause g l = AreAmong l.fn.flags.items l.flags.items
