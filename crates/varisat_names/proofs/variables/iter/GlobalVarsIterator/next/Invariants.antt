use Rattle.std.proofs.Common.{◌≡◌, ◌≤◌, ◌-◌, ◌^◌, length, drop}
use Rattle.varisat_names.specs.promises.VarData.{live_from}
use Rattle.varisat_names.proofs.variables.iter.GlobalVarsIterator.next.Given as goal

abbrev pub invariant-globals : goal.invariant-globals
invariant-globals g l = record {
  left : live_from l.self-inside.index (drop l.self-inside.index l.self-inside.globals.now.kept) ≡ l.fn.self;
  small : length l.self-inside.globals.now.kept ≤ 2 ^ 31;
}

abbrev pub decreases-globals : goal.decreases-globals
decreases-globals g l = length l.self-inside.globals.now.kept - l.self-inside.index
