use Rattle.std.proofs.Common.{◌∙◌, ap, sym, refl, inr, of_z, w32}
use Rattle.std.proofs.Math.Facts.{to_z-of_z}
use Rattle.varisat_literals.specs.promises.Numbers.{literal_numbered}
use Rattle.varisat_client.specs.promises.Pasts.{Outside}
use Rattle.varisat_client.proofs.Moving.{was-refused, tells-failed}
use Rattle.varisat_client.proofs.client.Client.has_failed.Goals as goal

pub returns-then-is_some : goal.returns-then-is_some
returns-then-is_some g c = rw (← c.self.view_is) (λ p st. Outside refl (inr (was-refused _ p st (sym c.is_some.ensures ∙ c.if-is_some.true))))

pub returns : goal.returns
returns g c = rw (← c.self.view_is)
    (λ p st. tells-failed _ _ _ p _ (λ e. c.if-number-eq0.false (ap (of_z w32) e)) st (sym c.is_some.ensures ∙ c.if-is_some.false)
    (c.literal_of.ensures ∙ ap literal_numbered (to_z-of_z c.ranges.number)) c.contains.ensures)
