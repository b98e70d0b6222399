use Rattle.std.proofs.Common.{refl, sym, subst}
use Rattle.varisat_clause.specs.Stored.{IsClauseRef}
use Rattle.varisat_clause.specs.Stores.{stored_clauses}
use Rattle.varisat_clause.specs.ClauseActivities.{activity_shifted}
use Rattle.varisat_clause.proofs.MappedClauses.{mapped-known}
use Rattle.varisat_clause.proofs.activity.bump_clause_activity.Goals as goal

pub set_activity-requires-else-value-lt-ACTIVITY_LIMIT-clause-place : goal.set_activity-requires-else-value-lt-ACTIVITY_LIMIT-clause-place
set_activity-requires-else-value-lt-ACTIVITY_LIMIT-clause-place g c =
    subst (λ xs. IsClauseRef xs c.args.cref) (sym c.rescale.ensures.clauses)
    (mapped-known activity_shifted (stored_clauses c.args.alloc.now) c.args.cref (λ x. refl) c.requires.place)
