use Rattle.std.proofs.Common.{◌∙◌, refl, sym}
use Rattle.varisat_client.specs.promises.Pasts.{LimitsSteps, Refused}
use Rattle.varisat_client.proofs.Moving.{stays-refused, limits-steps, limit-refused}
use Rattle.varisat_client.proofs.client.Client.limit_steps.Goals as goal

pub returns-then-is_some : goal.returns-then-is_some
returns-then-is_some g c = rw (← c.self.view_is) (stays-refused (LimitsSteps _) _ (sym c.is_some.ensures ∙ c.if-is_some.true) (λ p r. Refused r refl))

pub returns-in_default : goal.returns-in_default
returns-in_default g c = rw (← c.self.view_is)
    (limits-steps _ c.one-update.result _ _ (sym c.is_some.ensures ∙ c.if-is_some.false) c.one-update.ensures c.in_default.ensures refl)

pub returns-in-Err : goal.returns-in-Err
returns-in-Err g c = rw (← c.self.view_is)
    (limit-refused _ c.one-update.result _ _ _ _ (sym c.is_some.ensures ∙ c.if-is_some.false) c.one-update.ensures c.in-Err.ensures)
