use Rattle.std.proofs.Common.{◌≡◌, length, drop, map}
use Rattle.varisat_clause.specs.Stores.{stored_clauses}
use Rattle.varisat_clause.specs.Collected.{live_clauses}
use Rattle.varisat_analysis.specs.Collections.{repointed_each}
use Rattle.varisat_analysis.proofs.reasons.repoint_reasons.Given as goal

abbrev pub invariant-loop-cref : goal.invariant-loop-cref
invariant-loop-cref g l = record {
  left : l.cref-iterator ≡ map (λ k. k.place) (drop l.index (live_clauses l.clause_alloc));
  nodes : repointed_each l.assignment.current (drop l.index (live_clauses l.clause_alloc))
      (drop l.index (stored_clauses l.new_alloc)) l.impl_graph.nodes.items ≡ repointed_each l.assignment.current (live_clauses l.clause_alloc)
      (stored_clauses l.new_alloc) l.fn.impl_graph.nodes.items;
  count : length l.impl_graph.nodes.items ≡ length l.fn.impl_graph.nodes.items;
}
