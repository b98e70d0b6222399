use Rattle.std.proofs.Common.{Bool, subst}
use Rattle.varisat_clause.specs.Stored.{stored_at}
use Rattle.varisat_clause.specs.Stores.{stored_clauses}
use Rattle.varisat_clause.specs.Filters.{left_if}
use Rattle.varisat_clause.proofs.FilteredClauses.{altered-place, altered-live, tracks-altered, changes-kept, changes-deleted}
use Rattle.varisat_clause.proofs.filter.filter_clause.Goals as goal

pub delete_clause-requires-clause-place : goal.delete_clause-requires-clause-place
delete_clause-requires-clause-place g c =
    altered-place c.args.db.now c.args.alloc.now c.filter.new.alloc c.args.cref c.requires.tracks c.requires.place c.requires.live c.in_ok-stays.ensures.altered

pub delete_clause-requires-clause-live : goal.delete_clause-requires-clause-live
delete_clause-requires-clause-live g c =
    altered-live c.args.db.now c.args.alloc.now c.filter.new.alloc c.args.cref c.requires.tracks c.requires.place c.requires.live c.in_ok-stays.ensures.altered

pub delete_clause-requires-clause-tracks : goal.delete_clause-requires-clause-tracks
delete_clause-requires-clause-tracks g c =
    tracks-altered c.args.db.now c.args.alloc.now c.filter.new.alloc c.args.cref c.requires.tracks c.requires.place c.requires.live
    c.in_ok-stays.ensures.altered

pub returns-then-stays-clause-tracks : goal.returns-then-stays-clause-tracks
returns-then-stays-clause-tracks g c =
    tracks-altered c.args.db.now c.args.alloc.now c.filter.new.alloc c.args.cref c.requires.tracks c.requires.place c.requires.live
    c.in_ok-stays.ensures.altered

pub returns-then-stays-clause-changed : goal.returns-then-stays-clause-changed
returns-then-stays-clause-changed g c =
    changes-kept g.F.ClauseFilter.leaves c.args.filter.now c.filter.new.self c.args.db.now c.args.alloc.now c.filter.new.alloc c.args.cref
    c.requires.tracks c.requires.place c.requires.live c.in_ok-stays.ensures.altered
    (subst (λ (b : Bool). g.F.ClauseFilter.leaves c.args.filter.now (stored_at (stored_clauses c.args.alloc.now) c.args.cref)
    (left_if b (stored_at (stored_clauses c.filter.new.alloc) c.args.cref)) c.filter.new.self) c.if-stays.true c.in_ok-stays.ensures.left)

pub returns-clause-changed : goal.returns-clause-changed
returns-clause-changed g c =
    changes-deleted g.F.ClauseFilter.leaves c.args.filter.now c.filter.new.self c.args.db.now c.args.alloc.now c.filter.new.alloc c.args.cref
    c.requires.tracks c.requires.place c.requires.live c.in_ok-stays.ensures.altered c.delete_clause.new.alloc
    (subst (λ (b : Bool). g.F.ClauseFilter.leaves c.args.filter.now (stored_at (stored_clauses c.args.alloc.now) c.args.cref)
    (left_if b (stored_at (stored_clauses c.filter.new.alloc) c.args.cref)) c.filter.new.self) c.if-stays.false c.in_ok-stays.ensures.left)
    c.delete_clause.ensures.deleted
