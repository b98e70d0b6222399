use Rattle.std.proofs.Common.{◌≡◌, ℕ, ◌/◌, ◌^◌, ◌<◌, ◌≤◌, length, get_or}
use Rattle.varisat_vsids.proofs.vsids.rescale.Given as goal

abbrev pub invariant-loop-value : goal.invariant-loop-value
invariant-loop-value l = record {
  count : length l.activity ≡ length l.fn.activity;
  shifted : (k : ℕ) → k < l.value-index → get_or l.activity k 0 ≡ get_or l.fn.activity k 0 / 2 ^ 40;
  rest : (k : ℕ) → l.value-index ≤ k → get_or l.activity k 0 ≡ get_or l.fn.activity k 0;
}
