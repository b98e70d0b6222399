use Rattle.varisat_clause.specs.Databases.{Tracks}
use Rattle.varisat_clause.specs.Reductions.{mid_reduced}
use Rattle.varisat_clause.proofs.MappedClauses.{IsMapped}
use Rattle.varisat_clause.proofs.reduce.reduce_mids.Given as goal

abbrev pub invariant-clauses : goal.invariant-clauses
invariant-clauses g l = record {
  state : IsMapped mid_reduced l.fn.alloc l.alloc l.index;
  tracks : Tracks l.db l.alloc;
}
