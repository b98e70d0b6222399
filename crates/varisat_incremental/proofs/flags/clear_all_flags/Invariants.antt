use Rattle.std.proofs.Common.{◌≡◌, false}
use Rattle.varisat_incremental.specs.Flags.{AreAmong}
use Rattle.varisat_incremental.proofs.FlagLemmas.{ClearBut}
use Rattle.varisat_incremental.proofs.flags.clear_all_flags.Given as goal

abbrev pub invariant-loop-clause : goal.invariant-loop-clause
invariant-loop-clause g l = record {
  fewer : AreAmong l.flags.items l.fn.flags.items;
  clear : ClearBut l.flags.items l.clause-iterator l.formula.clauses;
  same : l.is_any ≡ false → l.flags.items ≡ l.fn.flags.items;
}
