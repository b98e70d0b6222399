use Rattle.std.proofs.Common.{refl}
use Rattle.varisat_database.proofs.ListLemmas.{grows_then, listed_next}
use Rattle.varisat_database.proofs.database.list_live.Goals as goal

pub returns-in_err-list_clause-clause-grows : goal.returns-in_err-list_clause-clause-grows
returns-in_err-list_clause-clause-grows g c =
    grows_then c.args.occurrences.now c.loop-place.occurrences c.list_clause.new.occurrences c.loop-place.invariant.grows c.list_clause.ensures.grows

pub loop-place-preserved : goal.loop-place-preserved
loop-place-preserved g c = record {
  grows = grows_then c.args.occurrences.now c.loop-place.occurrences c.list_clause.new.occurrences c.loop-place.invariant.grows c.list_clause.ensures.grows;
  listed = listed_next c.loop-place.place c.args.names.now c.args.history.now.clauses c.args.live.now c.loop-place.occurrences c.list_clause.new.occurrences
      c.clause.result.now _ c.clause.ensures refl c.list_clause.ensures.grows (c.in_ok-list_clause.ensures {u = tt}).ok c.loop-place.invariant.listed;
}
