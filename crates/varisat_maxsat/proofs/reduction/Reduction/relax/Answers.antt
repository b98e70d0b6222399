use Rattle.std.proofs.Common.{sym, ◌∙◌, subst, arith}
use Rattle.std.proofs.lemmas.List.{nil_from_length}
use Rattle.std.proofs.lemmas.Bool.{eqb-true}
use Rattle.varisat_theory.specs.promises.Membership.{◌∈◌}
use Rattle.varisat_maxsat.specs.inside.Charges.{IsSplit}
use Rattle.varisat_maxsat.proofs.Standing.{core-empty, relax-step}
use Rattle.varisat_maxsat.proofs.Handing.{passes-on}
use Rattle.varisat_maxsat.proofs.reduction.Reduction.relax.Goals as goal

pub returns-then-is_empty-clause-relaxed : goal.returns-then-is_empty-clause-relaxed
returns-then-is_empty-clause-relaxed g c = rw (← c.self.view_is) (λ p t st.
    core-empty p _ t c.in_ok-kept.field-0.kept.items c.in_ok-kept.field-0.failed.items
    (nil_from_length c.in_ok-kept.field-0.failed.items (let e = eqb-true _ _ (sym c.if-is_empty.ensures) in let f = c.in_ok-kept.field-0.failed.ok in omega arith))
    (λ q r. subst (λ xs. IsSplit q.core xs c.in_ok-kept.field-0.kept.items c.in_ok-kept.field-0.failed.items) c.deref.ensures.value (c.in_ok-kept.ensures q r)) st)

pub take_weight-requires : goal.take_weight-requires
take_weight-requires g c = λ d i. c.least_weight-weight.ensures d (subst (λ xs. d ∈ xs) (c.deref-3.ensures.value ∙ sym c.deref-2.ensures.value) i)

pub returns-clause-relaxed : goal.returns-clause-relaxed
returns-clause-relaxed g c = rw (← c.self.view_is) (λ p t st.
    c.in_ok-join_pending.ensures.joined p (relax-step p _ t _ c.in_ok-kept.field-0.kept.items c.deref-3.result.now _ _
    (λ q r. subst (λ xs. IsSplit q.core c.self.inside.charges.items c.in_ok-kept.field-0.kept.items xs) (sym c.deref-3.ensures.value)
    (subst (λ xs. IsSplit q.core xs c.in_ok-kept.field-0.kept.items c.in_ok-kept.field-0.failed.items) c.deref.ensures.value (c.in_ok-kept.ensures q r)))
    c.in_ok-pending.ensures st))

pub returns-in_err-join_pending-clause-reason : goal.returns-in_err-join_pending-clause-reason
returns-in_err-join_pending-clause-reason g c =
    passes-on c.from_residual-in_err-join_pending.result c.in_err-join_pending.field-0.0 _ c.from_residual-in_err-join_pending.ensures (λ over.
    rw (← c.self.view_is) (λ p t st.
    c.in_err-join_pending.ensures.reason over p (relax-step p _ t _ c.in_ok-kept.field-0.kept.items c.deref-3.result.now _ _
    (λ q r. subst (λ xs. IsSplit q.core c.self.inside.charges.items c.in_ok-kept.field-0.kept.items xs) (sym c.deref-3.ensures.value)
    (subst (λ xs. IsSplit q.core xs c.in_ok-kept.field-0.kept.items c.in_ok-kept.field-0.failed.items) c.deref.ensures.value (c.in_ok-kept.ensures q r)))
    c.in_ok-pending.ensures st)))
