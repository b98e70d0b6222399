use Rattle.std.proofs.Common.{◌≡◌, ◌≤◌, length, take}
use Rattle.std.specs.List.{filter}
use Rattle.varisat_prop.specs.Simplified.{is_unassigned}
use Rattle.varisat_prop.proofs.short.compact.Given as goal

abbrev pub invariant-loop-lit : goal.invariant-loop-lit
invariant-loop-lit l = record {
  count : length l.few ≡ length l.fn.few;
  within : l.kept ≤ l.lit-index;
  kept : take l.kept l.few ≡ filter (is_unassigned l.values) (take l.lit-index l.lits);
}
