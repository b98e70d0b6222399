use Rattle.std.proofs.Common.{◌≡◌, ◌≤◌, length, drop}
use Rattle.varisat_rules.specs.promises.Stacks.{extended}
use Rattle.varisat_rules.proofs.stack.extend.Given as goal

abbrev pub invariant-loop-k : goal.invariant-loop-k
invariant-loop-k g l = record {
  within : l.k ≤ length l.stack;
  so_far : l.values ≡ extended (drop l.k l.stack) l.fn.values;
}

abbrev pub decreases-loop-k : goal.decreases-loop-k
decreases-loop-k g l = l.k
