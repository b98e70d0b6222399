use Rattle.std.proofs.Common.{◌≡◌, ◌+◌, ◌-◌, ◌^◌, min, drop}
use Rattle.varisat_prop.specs.Pairs.{entry_count}
use Rattle.varisat_prop.proofs.binary.BinaryClauses.count.Given as goal

-- what was counted, with what the lists that are left have
abbrev pub invariant-lists : goal.invariant-lists
invariant-lists g l = min (l.entries + entry_count (drop l.place l.fn.self)) (2 ^ 64 - 1) ≡ min (entry_count l.fn.self) (2 ^ 64 - 1)
