use Rattle.std.proofs.lemmas.Grind.{common_steps}
use Rattle.std.proofs.Common.{◌≡◌, true, false, ap, sym, ◌∙◌, arith}
use Rattle.varisat_clause.specs.Headers.{Header}
use Rattle.varisat_clause.specs.Stored.{header_at}
use Rattle.varisat_clause.specs.Stores.{stored_clauses}
use Rattle.varisat_clause.proofs.FilteredClauses.{filtering-none, filtering-over, filtering-accepted, filtering-on}
use Rattle.varisat_clause.proofs.filter.filter_clauses.Goals as goal

pub clauses-init : goal.clauses-init
clauses-init g c = filtering-none g.F.ClauseFilter.leaves g.F.ClauseFilter.accepts c.args.filter.now c.args.alloc.now c.args.db.now
    c.requires.tracks c.requires.accepted

pub clauses-preserved-then-deleted : goal.clauses-preserved-then-deleted
clauses-preserved-then-deleted g c =
    let dead : (header_at (stored_clauses c.clauses.alloc) c.place-cref.result).deleted ≡ true =
    ap (λ (h : Header). h.deleted) (sym c.header.ensures) ∙ sym c.deleted.ensures ∙ c.if-deleted.true in
    filtering-over g.F.ClauseFilter.leaves g.F.ClauseFilter.accepts c.args.filter.now c.clauses.filter c.args.alloc.now c.clauses.alloc c.clauses.db
    c.clauses.index c.place-cref.result c.clauses.invariant (omega arith) c.place-cref.ensures.place dead

pub filter_clause-requires-clause-accepted : goal.filter_clause-requires-clause-accepted
filter_clause-requires-clause-accepted g c =
    let live : (header_at (stored_clauses c.clauses.alloc) c.place-cref.result).deleted ≡ false =
    ap (λ (h : Header). h.deleted) (sym c.header.ensures) ∙ sym c.deleted.ensures ∙ c.if-deleted.false in
    filtering-accepted g.F.ClauseFilter.leaves g.F.ClauseFilter.accepts c.args.filter.now c.clauses.filter c.args.alloc.now c.clauses.alloc
    c.clauses.db c.clauses.index c.place-cref.result c.clauses.invariant (omega arith) c.place-cref.ensures.place live

pub clauses-preserved : goal.clauses-preserved
clauses-preserved g c =
    let live : (header_at (stored_clauses c.clauses.alloc) c.place-cref.result).deleted ≡ false =
    ap (λ (h : Header). h.deleted) (sym c.header.ensures) ∙ sym c.deleted.ensures ∙ c.if-deleted.false in
    filtering-on g.F.ClauseFilter.leaves g.F.ClauseFilter.accepts c.args.filter.now c.clauses.filter c.args.alloc.now c.clauses.alloc c.clauses.db
    c.clauses.index c.place-cref.result c.clauses.invariant (omega arith) c.place-cref.ensures.place c.filter_clause.new.filter
    c.filter_clause.new.alloc c.filter_clause.new.db c.place-cref.ensures.known live c.in_ok-filter_clause.ensures.changed
    c.in_ok-filter_clause.ensures.accepts_more c.in_ok-filter_clause.ensures.tracks

pub returns-clause-filtered : goal.returns-clause-filtered
returns-clause-filtered g c = grind (arith, common_steps)
