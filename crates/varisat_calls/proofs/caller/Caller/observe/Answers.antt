use Rattle.std.proofs.Common.{◌∙◌, refl, ap}
use Rattle.varisat_calls.specs.Numbers.{returned_names}
use Rattle.varisat_calls.specs.Callers.{Refused}
use Rattle.varisat_calls.proofs.Making.{made, names-returned, no-room}
use Rattle.varisat_calls.proofs.caller.Caller.observe.Goals as goal

pub returns-in-Ok-list_names : goal.returns-in-Ok-list_names
returns-in-Ok-list_names g c = rw (← c.self.view_is)
    (names-returned _ _ c.in-Ok.vars.items c.in-Ok.ensures (c.in-Ok-list_names.ensures {u = tt} ∙ ap returned_names c.deref.ensures.value) refl)

pub returns-in-Ok : goal.returns-in-Ok
returns-in-Ok g c = rw (← c.self.view_is)
    (no-room _ _ _ c.in-Ok.vars.items _ c.run_out.ensures.number c.run_out.ensures.frame c.in-Ok.ensures)

pub returns : goal.returns
returns g c = rw (← c.self.view_is)
    (Refused c.in-Err.error c.refuse.ensures.number (made _ _ _ _ _ c.refuse.ensures.frame c.in-Err.ensures refl))
