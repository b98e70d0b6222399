use Rattle.std.proofs.Common.{◌≡◌, ◌*◌, ◌-◌, ◌≤◌, ◌++◌, [], length, replicate}
use Rattle.varisat_prop.proofs.binary.BinaryClauses.set_var_count.Given as goal

abbrev pub invariant-lists : goal.invariant-lists
invariant-lists g l = record {
  lists : l.self ≡ l.fn.self ++ replicate l.added [];
  within : l.added ≤ 2 * l.count - length l.fn.self;
}

abbrev pub decreases-lists : goal.decreases-lists
decreases-lists g l = 2 * l.count - length l.fn.self - l.added
