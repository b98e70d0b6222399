use Rattle.std.proofs.Common.{◌∙◌, List, max, refl, sym, ap, Some}
use Rattle.varisat_theory.specs.promises.Literals.{Literal}
use Rattle.varisat_formula.specs.promises.Formulas.{variables_of}
use Rattle.varisat_client.specs.promises.Pasts.{Begins, Refused, Again}
use Rattle.varisat_client.proofs.Moving.{stays-refused, begins-search, begin-refused}
use Rattle.varisat_client.proofs.client.Client.begin.Goals as goal

pub returns-then-is_some : goal.returns-then-is_some
returns-then-is_some g c = rw (← c.self.view_is) (stays-refused Begins _ (sym c.is_some.ensures ∙ c.if-is_some.true) (λ p r. Refused (Again r refl)))

pub returns-in-Ok : goal.returns-in-Ok
returns-in-Ok g c = rw (← c.self.view_is)
    (begins-search _ _ _ _ (sym c.is_some.ensures ∙ c.if-is_some.false) c.deref.ensures.value c.in-Ok.ensures.call
    (c.count_with-self-inside.ensures.count ∙ ap (λ (ls : List Literal). max c.self.inside.var_count (variables_of ls)) c.deref-in-Ok.ensures.value)
    (ap (λ v. v.items) c.swap.ensures.x_after) c.clear.ensures.items refl)

pub returns-in-Err : goal.returns-in-Err
returns-in-Err g c = rw (← c.self.view_is)
    (begin-refused _ _ _ _ (sym c.is_some.ensures ∙ c.if-is_some.false) c.deref.ensures.value c.in-Err.ensures.call (ap Some c.refusal_for.ensures))
