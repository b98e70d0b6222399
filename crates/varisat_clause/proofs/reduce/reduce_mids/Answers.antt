use Rattle.std.proofs.Common.{refl, arith}
use Rattle.varisat_clause.specs.Stored.{stored_at}
use Rattle.varisat_clause.specs.Stores.{stored_clauses}
use Rattle.varisat_clause.specs.Reductions.{mid_reduced}
use Rattle.varisat_clause.proofs.MappedClauses.{mapped-more, mapped-done}
use Rattle.varisat_clause.proofs.MidReduction.{mid-place}
use Rattle.varisat_clause.proofs.reduce.reduce_mids.Goals as goal

pub clauses-preserved : goal.clauses-preserved
clauses-preserved g c = record {
  state = mapped-more mid_reduced c.args.alloc.now c.clauses.alloc c.reduce_mid.new.alloc c.clauses.index c.place-cref.result
      (mid_reduced (stored_at (stored_clauses c.clauses.alloc) c.place-cref.result)) mid-place c.requires.sound
      (omega arith) c.clauses.invariant.state c.place-cref.ensures.place refl c.in_ok-reduce_mid.ensures.reduced;
  tracks = c.in_ok-reduce_mid.ensures.tracks;
}

pub returns-clause-reduced : goal.returns-clause-reduced
returns-clause-reduced g c = mapped-done mid_reduced c.args.alloc.now c.clauses.alloc c.clauses.index (omega arith) c.clauses.invariant.state
