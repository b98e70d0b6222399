use Rattle.std.proofs.Common.{◌≡◌, ℕ, ◌<◌, ◌≤◌}
use Rattle.varisat_prop.specs.Looks.{IsFalseAt}
use Rattle.varisat_prop.proofs.prop.long.find_other.Given as goal

abbrev pub invariant-loop-place : goal.invariant-loop-place
invariant-loop-place g l = record {
  same : l.lits ≡ l.fn.lits;
  falses : (k : ℕ) → 2 ≤ k → k < l.place → IsFalseAt l.assignment.current l.fn.lits k;
}
