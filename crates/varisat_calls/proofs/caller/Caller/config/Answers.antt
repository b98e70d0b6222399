use Rattle.std.proofs.Common.{refl}
use Rattle.varisat_calls.proofs.Making.{configured, field-set}
use Rattle.varisat_calls.proofs.caller.Caller.config.Goals as goal

pub returns : goal.returns
returns g c = rw (← c.self.view_is)
    (field-set _ c.in-Some.field c.args.value _ _ _ c.in-Some.ensures
    (configured c.in-Some.field c.args.value _ _ _ _ _ c.config-set.result c.one.ensures c.answer.ensures.number c.answer.ensures.frame
    c.config-set.ensures refl))
