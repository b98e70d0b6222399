use Rattle.std.proofs.Common.{ℕ, ◌<◌, [], get_or}
use Rattle.varisat_incremental.specs.Reconstructions.{IsLedBy}
use Rattle.varisat_incremental.proofs.reconstruction.are_led_by.Given as goal

abbrev pub invariant-loop-place : goal.invariant-loop-place
invariant-loop-place g l = (j : ℕ) → j < l.place → IsLedBy l.flags (get_or l.stack j [])
