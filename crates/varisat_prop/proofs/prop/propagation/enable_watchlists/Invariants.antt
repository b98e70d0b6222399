use Rattle.std.proofs.Common.{◌≡◌, true, length}
use Rattle.varisat_clause.specs.Collected.{live_clauses}
use Rattle.varisat_prop.proofs.watching.WatchRebuilt.{WatchingBut}
use Rattle.varisat_prop.proofs.prop.propagation.enable_watchlists.Given as goal

abbrev pub invariant-loop-cref : goal.invariant-loop-cref
invariant-loop-cref g l = record {
  but : WatchingBut l.watchlists (live_clauses l.alloc) l.cref-iterator;
  enabled : l.watchlists.enabled ≡ true;
  count : length l.watchlists.lists ≡ length l.fn.watchlists.lists;
}
