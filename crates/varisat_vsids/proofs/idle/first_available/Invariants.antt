use Rattle.std.proofs.Common.{◌≡◌, ◌≤◌, ◌-◌, length}
use Rattle.varisat_vsids.specs.Idle.{AreInBlocks, IsNoneBefore}
use Rattle.varisat_vsids.proofs.idle.first_available.Given as goal

abbrev pub invariant-numbers : goal.invariant-numbers
invariant-numbers l = record {
  count : length l.blocks ≡ length l.available;
  within : l.place ≤ length l.available;
  none : IsNoneBefore l.available l.place;
  blocks : AreInBlocks l.available l.blocks;
}

abbrev pub decreases-numbers : goal.decreases-numbers
decreases-numbers l = length l.available - l.place
