use Rattle.std.proofs.Common.{◌∙◌, ◌∷◌, [], ◌++◌, refl, sym, ap, Some, Err, to_z, of_z, w32}
use Rattle.std.proofs.Math.Facts.{to_z-of_z}
use Rattle.varisat_literals.specs.promises.Numbers.{literal_numbered}
use Rattle.varisat_client.proofs.Moving.{add-stays, put-literal, put-refused}
use Rattle.varisat_client.proofs.client.Client.add.Goals as goal

pub returns-then-is_some : goal.returns-then-is_some
returns-then-is_some g c = rw (← c.self.view_is) (add-stays _ _ (sym c.is_some.ensures ∙ c.if-is_some.true))

pub returns-in_default : goal.returns-in_default
returns-in_default g c = rw (← c.self.view_is)
    (put-literal _ _ _ (λ e. c.if-number-eq0.false (ap (of_z w32) e)) (sym c.is_some.ensures ∙ c.if-is_some.false)
    (c.in_default.ensures {u = tt} ∙ ap (λ n. c.self.inside.clause.items ++ literal_numbered n ∷ []) (to_z-of_z c.ranges.number)) refl)

pub returns-in-Err : goal.returns-in-Err
returns-in-Err g c = rw (← c.self.view_is)
    (put-refused _ _ _ (λ e. c.if-number-eq0.false (ap (of_z w32) e)) (sym c.is_some.ensures ∙ c.if-is_some.false) refl)
