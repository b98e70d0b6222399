use Rattle.varisat_client.specs.promises.Pasts.{ClientPast}
use Rattle.varisat_maxsat.specs.inside.Reductions.{IsReady}
use Rattle.varisat_maxsat.proofs.Lightening.{SearchesOn}
use Rattle.varisat_maxsat.proofs.feeding.search_lightly.Given as goal

abbrev pub invariant-turns : goal.invariant-turns
invariant-turns g l = (p : ClientPast) → IsReady l.fn.client p → SearchesOn l.charges l.left.items l.given_up.items p.clauses l.client
