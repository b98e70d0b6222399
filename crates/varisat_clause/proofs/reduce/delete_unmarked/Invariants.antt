use Rattle.std.proofs.Common.{drop}
use Rattle.varisat_clause.specs.Stores.{stored_clauses}
use Rattle.varisat_clause.specs.Databases.{Tracks}
use Rattle.varisat_clause.specs.Reductions.{unmarked_places, all_deleted}
use Rattle.varisat_clause.proofs.LocalReduction.{IsReducing}
use Rattle.varisat_clause.proofs.reduce.delete_unmarked.Given as goal

abbrev pub invariant-clauses : goal.invariant-clauses
invariant-clauses g l = record {
  state : IsReducing (all_deleted (unmarked_places (stored_clauses l.fn.alloc) l.count l.list) (stored_clauses l.fn.alloc)) l.fn.alloc l.alloc
      l.left (drop l.cref-index l.list);
  tracks : Tracks l.db l.alloc;
}
