use Rattle.std.proofs.Common.{subst}
use Rattle.std.proofs.Math.Facts.{to_z-of_z}
use Rattle.varisat_client.specs.promises.Pasts.{ReturnsFailed}
use Rattle.varisat_client.specs.inside.Clients.{IsTrueOfPast}
use Rattle.varisat_c.proofs.client.client_has_failed.Goals as goal

pub returns-clause-failed : goal.returns-clause-failed
returns-clause-failed c = rw c.take-client.ensures.value
    (subst (IsTrueOfPast (ReturnsFailed c.args.number c.has_failed-failed.result)) c.deref.ensures
    (subst (λ n. IsTrueOfPast (ReturnsFailed n c.has_failed-failed.result) c.deref.result.now) (to_z-of_z c.ranges.number)
    c.has_failed-failed.ensures))
