use Rattle.std.proofs.Common.{refl}
use Rattle.varisat_calls.specs.Callers.{Closed, Failed}
use Rattle.varisat_calls.proofs.Making.{made}
use Rattle.varisat_calls.proofs.caller.Caller.close_proof.Goals as goal

pub returns-in-Ok-Some : goal.returns-in-Ok-Some
returns-in-Ok-Some g c = rw (← c.self.view_is)
    (Closed c.in-Ok-Some.target refl (record { call = rw c.in-Ok-Some.field-0-is at c.in-Ok-Some.ensures.call; rest = refl }))

pub returns-in-Err : goal.returns-in-Err
returns-in-Err g c = rw (← c.self.view_is)
    (Failed c.in-Err.error c.in-Err.target c.refuse.ensures.number (made _ _ _ _ _ c.refuse.ensures.frame c.in-Err.ensures.call refl))
