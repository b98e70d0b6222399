use Rattle.std.proofs.Common.{◌≡◌, ◌≤◌, ◌-◌, ◌^◌, length, drop}
use Rattle.varisat_names.specs.promises.VarMap.{mapped_from}
use Rattle.varisat_names.proofs.variables.iter.UserVarsIterator.next.Given as goal

abbrev pub invariant-names : goal.invariant-names
invariant-names g l = record {
  left : mapped_from l.self-inside.index (drop l.self-inside.index l.self-inside.map.now) ≡ l.fn.self;
  small : length l.self-inside.map.now ≤ 2 ^ 31;
}

abbrev pub decreases-names : goal.decreases-names
decreases-names g l = length l.self-inside.map.now - l.self-inside.index
