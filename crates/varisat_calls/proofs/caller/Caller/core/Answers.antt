use Rattle.std.proofs.Common.{refl}
use Rattle.varisat_calls.proofs.Making.{list-returned}
use Rattle.varisat_calls.proofs.caller.Caller.core.Goals as goal

pub returns-in-Ok : goal.returns-in-Ok
returns-in-Ok g c = rw (← c.self.view_is) (list-returned _ _ _ c.in-Some.core.now c.in-Some.ensures.call (c.in-Ok.ensures {u = tt}) refl)
