use Rattle.std.proofs.Common.{◌≡◌, ◌*◌, ◌-◌, ◌≤◌, ◌++◌, [], length, replicate}
use Rattle.varisat_prop.proofs.prop.watch.Watchlists.set_var_count.Given as goal

abbrev pub invariant-lists : goal.invariant-lists
invariant-lists g l = record {
  enabled : l.self.enabled ≡ l.fn.self.enabled;
  lists : l.self.lists ≡ l.fn.self.lists ++ replicate l.added [];
  within : l.added ≤ 2 * l.count - length l.fn.self.lists;
}

abbrev pub decreases-lists : goal.decreases-lists
decreases-lists g l = 2 * l.count - length l.fn.self.lists - l.added
