use Rattle.std.proofs.Common.{subst}
use Rattle.varisat_client.specs.inside.Clients.{Client, Moves}
use Rattle.varisat_c.specs.Ends.{SearchesBy}
use Rattle.varisat_c.proofs.SearchEnds.{returned-by}
use Rattle.varisat_c.proofs.client.client_search.Goals as goal

pub returns : goal.returns
returns c = rw (c.take-client.ensures.value, c.put.ensures)
    (subst (λ (g : Client). Moves (SearchesBy c.end_code.result) g c.search-end.new.self) c.deref_mut.ensures.value
    (returned-by c.search-end.result c.end_code.result _ _ c.end_code.ensures c.search-end.ensures))
