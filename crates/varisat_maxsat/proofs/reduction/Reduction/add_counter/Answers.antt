use Rattle.std.proofs.Common.{◌∙◌, subst}
use Rattle.varisat_maxsat.specs.inside.Charges.{CountsCharge}
use Rattle.varisat_maxsat.proofs.Below.{charge-step, fresh-step}
use Rattle.varisat_maxsat.proofs.reduction.Reduction.add_counter.Goals as goal

pub returns-in-Some : goal.returns-in-Some
returns-in-Some g c = rw (← c.self.view_is) (λ p st.
    charge-step p _ _ c.in-Some.counter (subst (λ xs. CountsCharge xs c.in-Some.counter) c.deref.ensures.value c.in-Some.ensures.counts)
    c.in_ok-push.ensures.items st)

pub returns : goal.returns
returns g c = λ p st.
    fresh-step p _ _ _ _ _ _ _ (c.self-2.view_is ∙ c.in_ok-literal.ensures.named) c.in_ok-literal.ensures.literal c.in_ok-push-2.ensures.items st
