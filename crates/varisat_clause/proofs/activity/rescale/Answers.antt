use Rattle.std.proofs.Common.{refl, ap, ◌∙◌, arith}
use Rattle.varisat_clause.specs.Headers.{Header}
use Rattle.varisat_clause.specs.Stored.{StoredClause, stored_at}
use Rattle.varisat_clause.specs.Stores.{stored_clauses}
use Rattle.varisat_clause.specs.ClauseActivities.{activity_shifted}
use Rattle.varisat_clause.proofs.MappedClauses.{mapped-more, mapped-done}
use Rattle.varisat_clause.proofs.activity.rescale.Goals as goal

pub clauses-preserved : goal.clauses-preserved
clauses-preserved g c =
    let k : StoredClause = stored_at (stored_clauses c.clauses.alloc) c.place-cref.result in
    mapped-more activity_shifted c.args.alloc.now c.clauses.alloc c.set_header.new.self c.clauses.index c.place-cref.result
    (record k { header = c.set_activity.new.self }) (λ x. refl) c.requires (omega arith) c.clauses.invariant c.place-cref.ensures.place
    (ap (λ (x : Header). record k { header = x }) (c.set_activity.ensures ∙ rw (c.activity.ensures, c.header-header.ensures) refl)) c.set_header.ensures

pub returns : goal.returns
returns g c = mapped-done activity_shifted c.args.alloc.now c.clauses.alloc c.clauses.index (omega arith) c.clauses.invariant
