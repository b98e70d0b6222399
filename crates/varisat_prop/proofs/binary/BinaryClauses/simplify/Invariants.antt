use Rattle.std.proofs.Common.{◌≡◌, ℕ, ◌<◌, ◌≤◌, [], length, get_or}
use Rattle.varisat_prop.specs.Simplified.{unassigned_implied}
use Rattle.varisat_prop.proofs.binary.BinaryClauses.simplify.Given as goal

abbrev pub invariant-loop-code : goal.invariant-loop-code
invariant-loop-code g l = record {
  count : length l.self ≡ length l.fn.self;
  done : (k : ℕ) → k < l.code → get_or l.self k [] ≡ unassigned_implied l.values k (get_or l.fn.self k []);
  left : (k : ℕ) → l.code ≤ k → get_or l.self k [] ≡ get_or l.fn.self k [];
}
