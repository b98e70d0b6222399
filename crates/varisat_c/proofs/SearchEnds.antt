-- A search whose end is returned as a number.
use Rattle.std.proofs.Common.{◌≡◌, ℕ}
use Rattle.varisat_client.specs.declared.client.SearchEnd.{SearchEnd}
use Rattle.varisat_client.specs.promises.Pasts.{IsSearchEnd}
use Rattle.varisat_client.specs.inside.Clients.{Client, Moves}
use Rattle.varisat_c.specs.Ends.{end_code, SearchesBy}

-- it moves the past as the end says
pub returned-by : (end : SearchEnd) (code : ℕ) (g h : Client) → code ≡ end_code end → Moves (IsSearchEnd end) g h → Moves (SearchesBy code) g h
returned-by end code g h e moves = λ p st. let (q, searches, stands) = moves p st in (q, (end, e, searches), stands)
