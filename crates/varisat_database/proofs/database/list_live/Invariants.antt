use Rattle.varisat_database.specs.Sound.{Grows}
use Rattle.varisat_database.proofs.ListLemmas.{ListedTo}
use Rattle.varisat_database.proofs.database.list_live.Given as goal

abbrev pub invariant-loop-place : goal.invariant-loop-place
invariant-loop-place g l = record {
  grows : Grows l.fn.occurrences l.occurrences;
  listed : ListedTo l.place l.names l.history.clauses l.live l.occurrences;
}
