use Rattle.std.proofs.Common.{◌≡◌, ◌-◌, length, drop}
use Rattle.varisat_clause.specs.Stores.{stored_clauses, IsSound}
use Rattle.varisat_clause.specs.Filters.{live_places}
use Rattle.varisat_clause.proofs.iter.ClausesIterator.next.Given as goal

abbrev pub invariant-places : goal.invariant-places
invariant-places g l = record {
  left : live_places (drop l.self-inside.index (stored_clauses l.self-inside.alloc.now)) ≡ l.fn.self;
  sound : IsSound l.self-inside.alloc.now;
}

abbrev pub decreases-places : goal.decreases-places
decreases-places g l = length l.self-inside.alloc.now.places - l.self-inside.index
