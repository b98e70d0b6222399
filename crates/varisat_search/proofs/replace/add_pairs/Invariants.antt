use Rattle.std.proofs.Common.{◌≡◌, take, length}
use Rattle.varisat_search.specs.Simplifications.{with_pairs}
use Rattle.varisat_search.proofs.replace.add_pairs.Given as goal

abbrev pub invariant-loop-pair : goal.invariant-loop-pair
invariant-loop-pair g l = record {
  joined : l.binary_clauses ≡ with_pairs l.fn.binary_clauses
      (take l.pair-index l.pairs);
  count : length l.binary_clauses ≡ length l.fn.binary_clauses;
}
