use Rattle.std.proofs.Common.{◌≡◌, length, take}
use Rattle.varisat_client.specs.inside.LiteralSets.{IsSetOf}
use Rattle.varisat_client.proofs.literal_set.set_flags.Given as goal

abbrev pub invariant-loop-lit : goal.invariant-loop-lit
invariant-loop-lit l = IsSetOf (take l.lit-index l.lits) l.flags × (length l.flags ≡ length l.fn.flags)
