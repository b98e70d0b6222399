use Rattle.std.proofs.Common.{refl, sym}
use Rattle.varisat_calls.proofs.Making.{proof-opened, proof-refused}
use Rattle.varisat_calls.proofs.caller.Caller.open_proof.Goals as goal

pub returns-in-Ok-write_proof : goal.returns-in-Ok-write_proof
returns-in-Ok-write_proof g c = rw (← c.self.view_is)
    (proof-opened _ c.in-Some.format c.in-Ok.target _ _ (sym c.in-Some.ensures) c.in-Ok.ensures c.in-Ok-write_proof.ensures refl)

pub returns-in-Err : goal.returns-in-Err
returns-in-Err g c = rw (← c.self.view_is)
    (proof-refused _ c.in-Some.format _ _ c.in-Err.error _ _ _ _ (sym c.in-Some.ensures) c.refuse-in-Err.ensures.number c.refuse-in-Err.ensures.frame
    c.in-Err.ensures refl)
