use Rattle.std.proofs.Common.{refl, sym, ◌∙◌}
use Rattle.varisat_client.specs.promises.Pasts.{Prepares, Refused, Again}
use Rattle.varisat_client.proofs.Moving.{stays-refused, prepares, prepares-nothing, prepare-refused}
use Rattle.varisat_client.proofs.client.Client.prepare.Goals as goal

pub returns-then-is_some : goal.returns-then-is_some
returns-then-is_some g c = rw (← c.self.view_is) (stays-refused Prepares _ (sym c.is_some.ensures ∙ c.if-is_some.true) (λ p r. Refused (Again r refl)))

pub returns-then-not-self : goal.returns-then-not-self
returns-then-not-self g c = rw (← c.self.view_is) (prepares-nothing _)

pub returns-in-Ok : goal.returns-in-Ok
returns-in-Ok g c = rw (← c.self.view_is)
    (prepares _ _ _ (sym c.is_some.ensures ∙ c.if-is_some.false) c.if-not-self.false (c.in-Ok.ensures {u = tt}) refl)

pub returns-in-Err : goal.returns-in-Err
returns-in-Err g c = rw (← c.self.view_is) (prepare-refused _ _ (sym c.is_some.ensures ∙ c.if-is_some.false) refl)
