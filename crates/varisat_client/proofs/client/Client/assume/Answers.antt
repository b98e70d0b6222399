use Rattle.std.proofs.Common.{◌∙◌, ◌∷◌, [], ◌++◌, refl, sym, ap, to_z, of_z, w32}
use Rattle.std.proofs.Math.Facts.{to_z-of_z}
use Rattle.varisat_literals.specs.promises.Numbers.{literal_numbered}
use Rattle.varisat_client.specs.promises.Pasts.{AssumesNumber, Refused, Again}
use Rattle.varisat_client.proofs.Moving.{put-nothing, stays-refused, put-assumption, assumption-refused}
use Rattle.varisat_client.proofs.client.Client.assume.Goals as goal

pub returns-then-number-eq0 : goal.returns-then-number-eq0
returns-then-number-eq0 g c = put-nothing _ _ (sym (to_z-of_z c.ranges.number) ∙ ap (to_z w32) c.if-number-eq0.true)

pub returns-then-is_some : goal.returns-then-is_some
returns-then-is_some g c = rw (← c.self.view_is)
    (stays-refused (AssumesNumber _) _ (sym c.is_some.ensures ∙ c.if-is_some.true)
    (λ p r. Refused (λ e. c.if-number-eq0.false (ap (of_z w32) e)) (Again r refl)))

pub returns-in_default : goal.returns-in_default
returns-in_default g c = rw (← c.self.view_is)
    (put-assumption _ _ _ (λ e. c.if-number-eq0.false (ap (of_z w32) e)) (sym c.is_some.ensures ∙ c.if-is_some.false)
    (c.in_default.ensures {u = tt} ∙ ap (λ n. c.self.inside.assumptions.items ++ literal_numbered n ∷ []) (to_z-of_z c.ranges.number)) refl)

pub returns-in-Err : goal.returns-in-Err
returns-in-Err g c = rw (← c.self.view_is)
    (assumption-refused _ _ _ (λ e. c.if-number-eq0.false (ap (of_z w32) e)) (sym c.is_some.ensures ∙ c.if-is_some.false) refl)
