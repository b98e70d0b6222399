use Rattle.std.proofs.Common.{◌≡◌, false, take}
use Rattle.varisat_incremental.specs.Flags.{AreClear, AreAmong}
use Rattle.varisat_incremental.proofs.flags.clear_flags.Given as goal

abbrev pub invariant-loop-lit : goal.invariant-loop-lit
invariant-loop-lit g l = record {
  fewer : AreAmong l.flags.items l.fn.flags.items;
  clear : AreClear l.flags.items (take l.lit-index l.lits);
  same : l.is_any ≡ false → l.flags.items ≡ l.fn.flags.items;
}
