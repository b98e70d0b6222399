use Rattle.std.proofs.Common.{◌∙◌, refl, ap}
use Rattle.varisat_calls.specs.Numbers.{returned_numbers}
use Rattle.varisat_calls.proofs.Making.{list-returned}
use Rattle.varisat_calls.proofs.Looking.{model-unlisted}
use Rattle.varisat_calls.proofs.caller.Caller.model.Goals as goal

pub returns-in-Ok : goal.returns-in-Ok
returns-in-Ok g c = rw (← c.self.view_is)
    (list-returned _ _ _ c.in-Ok-Some.lits.items (rw c.in-Ok-Some.field-0-is at c.in-Ok-Some.ensures.call)
    (c.in-Ok.ensures {u = tt} ∙ ap returned_numbers c.deref.ensures.value) refl)

pub returns : goal.returns
returns g c =
    model-unlisted c.args.self.now c.run_out-in-Err.new.self c.run_out-in-Err.result c.in-Err.field-0 c.run_out-in-Err.ensures.number
    c.run_out-in-Err.ensures.frame (rw (← c.self.view_is) c.in-Err.ensures.call)
