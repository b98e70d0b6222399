use Rattle.varisat_incremental.specs.Flags.{AreAmong}
use Rattle.varisat_incremental.proofs.FlagLemmas.{FlaggedBut}
use Rattle.varisat_incremental.proofs.flags.set_all_flags.Given as goal

abbrev pub invariant-loop-clause : goal.invariant-loop-clause
invariant-loop-clause g l = record {
  keeps : AreAmong l.fn.flags.items l.flags.items;
  sets : FlaggedBut l.flags.items l.clause-iterator l.formula.clauses;
}
