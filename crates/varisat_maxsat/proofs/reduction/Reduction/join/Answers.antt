use Rattle.std.proofs.Common.{◌∙◌}
use Rattle.varisat_maxsat.proofs.Standing.{join-step}
use Rattle.varisat_maxsat.proofs.reduction.Reduction.join.Goals as goal

pub returns : goal.returns
returns g c = λ p rest st.
    join-step p _ _ _ _ _ _ _ _ _ _ _ _ _ _ _ rest _ (c.in_ok-either.ensures.named) (c.self.view_is ∙ c.in_ok-both.ensures.named)
    c.in_ok-either.ensures.literal c.in_ok-both.ensures.literal c.not.ensures c.not-2.ensures c.not-3.ensures c.not-4.ensures
    c.in_ok-give.ensures c.in_ok-give-2.ensures c.in_ok-give-3.ensures c.in_ok-push.ensures.items st
