use Rattle.std.proofs.Common.{false, refl, arith}
use Rattle.varisat_clause.specs.Stored.{stored_at}
use Rattle.varisat_clause.specs.Stores.{stored_clauses}
use Rattle.varisat_clause.specs.Reductions.{marked_as}
use Rattle.varisat_clause.proofs.MappedClauses.{mapped-more, mapped-done}
use Rattle.varisat_clause.proofs.MarkedClauses.{without-marks, tracks-unmarked}
use Rattle.varisat_clause.proofs.reduce.clear_marks.Goals as goal

pub clauses-preserved : goal.clauses-preserved
clauses-preserved g c =
    mapped-more (marked_as false) c.args.alloc.now c.clauses.alloc c.set_mark.new.alloc c.clauses.index c.place-cref.result
    (marked_as false (stored_at (stored_clauses c.clauses.alloc) c.place-cref.result)) (λ x. refl) c.requires
    (omega arith) c.clauses.invariant c.place-cref.ensures.place refl c.set_mark.ensures

pub returns-clause-cleared : goal.returns-clause-cleared
returns-clause-cleared g c = mapped-done (marked_as false) c.args.alloc.now c.clauses.alloc c.clauses.index (omega arith) c.clauses.invariant

pub returns-clause-unmarked : goal.returns-clause-unmarked
returns-clause-unmarked g c = λ t. without-marks c.args.alloc.now c.clauses.alloc t
    (mapped-done (marked_as false) c.args.alloc.now c.clauses.alloc c.clauses.index (omega arith) c.clauses.invariant)

pub returns-clause-tracks : goal.returns-clause-tracks
returns-clause-tracks g c = λ d k. tracks-unmarked d c.args.alloc.now c.clauses.alloc k
    (mapped-done (marked_as false) c.args.alloc.now c.clauses.alloc c.clauses.index (omega arith) c.clauses.invariant)
