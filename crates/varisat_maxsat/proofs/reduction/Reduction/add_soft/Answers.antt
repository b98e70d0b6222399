use Rattle.std.proofs.Common.{◌++◌, ◌∷◌, [], ap, ◌∙◌, subst}
use Rattle.varisat_maxsat.specs.inside.Charges.{LiteralsAreBelow}
use Rattle.varisat_maxsat.specs.inside.Reductions.{Reduction}
use Rattle.varisat_maxsat.proofs.Standing.{stands-nothing, literal-step, clause-step, one-item}
use Rattle.varisat_maxsat.proofs.reduction.Reduction.add_soft.Goals as goal

pub returns-then-weight-eq0 : goal.returns-then-weight-eq0
returns-then-weight-eq0 g c = rw (← c.self.view_is) (λ p st. stands-nothing p _ _ _ c.if-weight-eq0.true c.in_ok-ensure_below.ensures st)

pub returns-in-len1 : goal.returns-in-len1
returns-in-len1 g c = rw (← c.self.view_is) (λ p st.
    literal-step p _ _ _ _ _ _ (one-item _ c.literal-item.result c.in-len1.len_at_least c.in-len1.len_below c.literal-item.is)
    c.in_ok-ensure_below.ensures c.in_ok-push.ensures.items c.not.ensures st)

pub returns : goal.returns
returns g c = λ p st.
    clause-step p _ _ _ _ _ _ _ _ (subst (λ (x : Reduction). LiteralsAreBelow x.variables c.args.clause.now) c.self.view_is c.in_ok-ensure_below.ensures)
    (c.self-2.view_is ∙ c.in_ok-literal.ensures.named) c.in_ok-give.ensures
    (c.deref.ensures.value ∙ c.in_ok-push-2.ensures.items ∙ ap (λ xs. xs ++ c.in_ok-literal.literal ∷ [])
    (c.in_ok-extend_from_slice.ensures.items ∙ ap (λ xs. xs ++ c.args.clause.now) c.new-relaxed.ensures.items))
    c.in_ok-literal.ensures.literal c.in_ok-push-3.ensures.items st
