use Rattle.std.proofs.Common.{◌∙◌, refl, ap, Ok}
use Rattle.std.proofs.Math.Facts.{to_z-of_z}
use Rattle.varisat_literals.specs.promises.Numbers.{literal_numbered}
use Rattle.varisat_calls.proofs.Looking.{value-returned}
use Rattle.varisat_calls.proofs.caller.Caller.value.Goals as goal

pub returns-in-Ok-true : goal.returns-in-Ok-true
returns-in-Ok-true g c = rw (← c.self.view_is)
    (let (m, is, set) = c.in-Ok-true.ensures.model (ap Ok c.in-Ok-true.field-0-test) in
    value-returned c.args.number _ _ c.find_model.new.self.literals c.literal_of.result c.value.result m is set
    (c.literal_of.ensures ∙ ap literal_numbered (to_z-of_z c.ranges.number)) c.value.ensures refl)
