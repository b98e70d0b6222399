use Rattle.std.proofs.Common.{◌≡◌, ◌-◌, ◌≤◌, ◌++◌, [], length, map, replicate}
use Rattle.varisat_database.proofs.lists.push_lists.Given as goal

abbrev pub invariant-loop-added : goal.invariant-loop-added
invariant-loop-added g l = record {
  lists : map (λ v. v.items) l.lists.items ≡ map (λ v. v.items) l.fn.lists.items ++ replicate l.added [];
  within : l.added ≤ l.count - length l.fn.lists.items;
}

abbrev pub decreases-loop-added : goal.decreases-loop-added
decreases-loop-added g l = l.count - length l.fn.lists.items - l.added
