use Rattle.std.proofs.Common.{subst}
use Rattle.std.proofs.Math.Facts.{to_z-of_z}
use Rattle.varisat_client.specs.promises.Pasts.{AddsNumber}
use Rattle.varisat_client.specs.inside.Clients.{Client, Moves}
use Rattle.varisat_c.proofs.client.client_add.Goals as goal

pub returns : goal.returns
returns c = rw (c.take-client.ensures.value, c.put.ensures)
    (subst (λ (g : Client). Moves (AddsNumber c.args.number) g c.add.new.self) c.deref_mut.ensures.value
    (subst (λ n. Moves (AddsNumber n) c.deref_mut.result.now c.add.new.self) (to_z-of_z c.ranges.number) c.add.ensures))
