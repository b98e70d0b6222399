use Rattle.std.proofs.Common.{◌≤◌, ◌^◌, take}
use Rattle.varisat_client.specs.inside.LiteralSets.{HaveFlags}
use Rattle.varisat_client.proofs.literal_set.flags_for.Given as goal

abbrev pub invariant-loop-lit : goal.invariant-loop-lit
invariant-loop-lit l = HaveFlags l.count (take l.lit-index l.lits) × (l.count ≤ 2 ^ 32)
