use Rattle.std.proofs.Common.{refl}
use Rattle.varisat_client.specs.inside.Clients.{Kept}
use Rattle.varisat_client.proofs.client.Client.keep_core.Goals as goal

pub returns-in-Ok : goal.returns-in-Ok
returns-in-Ok g c = rw (← c.self.view_is)
    (Kept c.in-Some.list.now refl (λ s st. c.in-Some.ensures.fails c.in-Some.list.now refl s st) (c.in-Ok.ensures {u = tt}) refl)
