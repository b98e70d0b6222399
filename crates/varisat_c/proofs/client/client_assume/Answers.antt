use Rattle.std.proofs.Common.{subst}
use Rattle.std.proofs.Math.Facts.{to_z-of_z}
use Rattle.varisat_client.specs.promises.Pasts.{AssumesNumber}
use Rattle.varisat_client.specs.inside.Clients.{Client, Moves}
use Rattle.varisat_c.proofs.client.client_assume.Goals as goal

pub returns : goal.returns
returns c = rw (c.take-client.ensures.value, c.put.ensures)
    (subst (λ (g : Client). Moves (AssumesNumber c.args.number) g c.assume.new.self) c.deref_mut.ensures.value
    (subst (λ n. Moves (AssumesNumber n) c.deref_mut.result.now c.assume.new.self) (to_z-of_z c.ranges.number) c.assume.ensures))
