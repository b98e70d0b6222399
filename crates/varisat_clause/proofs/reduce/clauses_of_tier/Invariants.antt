use Rattle.std.proofs.Common.{◌≡◌, take}
use Rattle.varisat_clause.specs.Stores.{stored_clauses}
use Rattle.varisat_clause.specs.Reductions.{places_in}
use Rattle.varisat_clause.proofs.reduce.clauses_of_tier.Given as goal

abbrev pub invariant-clauses : goal.invariant-clauses
invariant-clauses g l = l.list.items ≡ places_in l.tier (take l.index (stored_clauses l.alloc))
