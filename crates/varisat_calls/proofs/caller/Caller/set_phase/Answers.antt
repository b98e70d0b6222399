use Rattle.std.proofs.Common.{◌∙◌, refl, ap, of_z, w32}
use Rattle.std.proofs.Math.Facts.{to_z-of_z}
use Rattle.varisat_literals.specs.promises.Numbers.{literal_numbered}
use Rattle.varisat_calls.proofs.Making.{phase-set}
use Rattle.varisat_calls.proofs.caller.Caller.set_phase.Goals as goal

pub returns : goal.returns
returns g c = rw (← c.self.view_is)
    (phase-set c.args.number c.literal_of.result _ _ _ _ c.set_phase-set.result (λ e. c.if-number-eq0.false (ap (of_z w32) e))
    (c.literal_of.ensures ∙ ap literal_numbered (to_z-of_z c.ranges.number)) c.answer.ensures.number c.answer.ensures.frame c.set_phase-set.ensures refl)
