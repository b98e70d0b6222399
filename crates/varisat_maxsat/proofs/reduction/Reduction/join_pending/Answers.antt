use Rattle.std.proofs.Common.{◌+◌, ◌^◌, ◌≤◌, ◌∷◌, ap, ◌∙◌, subst}
use Rattle.varisat_maxsat.specs.inside.Reductions.{Reduction}
use Rattle.varisat_maxsat.proofs.Standing.{join_pending-step, pending-costs, stands-none, empty-by, with-pending}
use Rattle.varisat_maxsat.proofs.Handing.{passes-on}
use Rattle.varisat_maxsat.proofs.reduction.Reduction.join_pending.Goals as goal

pub returns-in_default-pop_front-clause-joined : goal.returns-in_default-pop_front-clause-joined
returns-in_default-pop_front-clause-joined g c = λ p st0.
    let st = c.gates.invariant p st0 in
    let none = empty-by _ _ c.in_default-pop_front.ensures.items c.in_default-pop_front.ensures.rest in
    join_pending-step p _ _ c.in-Some.first _ _ c.in_ok-give.ensures c.in_ok-self-inside.ensures
    (rw c.self.view_is (with-pending p _ _ _ _ (c.in-Some.ensures.items ∙ ap (λ xs. c.in-Some.first ∷ xs) none) st))

pub returns-in_err-self-inside-clause-reason : goal.returns-in_err-self-inside-clause-reason
returns-in_err-self-inside-clause-reason g c =
    let none = empty-by _ _ c.in_default-pop_front.ensures.items c.in_default-pop_front.ensures.rest in
    passes-on c.from_residual-in_err-self-inside.result c.in_err-self-inside.field-0.0 _ c.from_residual-in_err-self-inside.ensures (λ over p st0.
    pending-costs p _ c.in-Some.first _ (subst (λ (x : Reduction). 2 ^ 64 ≤ x.bound + c.args.weight) c.self.view_is c.in_err-self-inside.ensures.1)
    (with-pending p _ _ _ _ (c.in-Some.ensures.items ∙ ap (λ xs. c.in-Some.first ∷ xs) none) (c.gates.invariant p st0)))

pub returns-clause-joined : goal.returns-clause-joined
returns-clause-joined g c = λ p st0.
    let st = c.gates.invariant p st0 in
    let none = empty-by _ _ c.in_default.ensures.items c.in_default.ensures.rest in
    stands-none p _ _ (with-pending p _ _ _ _ none st)
