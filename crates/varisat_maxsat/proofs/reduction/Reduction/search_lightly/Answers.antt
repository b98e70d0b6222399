use Rattle.std.proofs.Common.{subst}
use Rattle.varisat_maxsat.specs.inside.Reductions.{FindsLightly}
use Rattle.varisat_maxsat.proofs.Below.{light-step, none-step}
use Rattle.varisat_maxsat.proofs.Lightening.{some-found, none-found}
use Rattle.varisat_maxsat.proofs.reduction.Reduction.search_lightly.Goals as goal

pub returns-in-Some : goal.returns-in-Some
returns-in-Some g c = rw (← c.self.view_is) (λ p st.
    light-step p _ _ _ (λ q r. subst (λ xs. FindsLightly xs c.in-Some.charges.items q.clauses c.search_lightly.new.client) c.deref.ensures.value
    (some-found c.in_ok-found.found c.in-Some.charges _ _ c.in-Some.is (c.in_ok-found.ensures q r))) st)

pub returns-in-None : goal.returns-in-None
returns-in-None g c = rw (← c.self.view_is) (λ p st.
    none-step p _ (λ q r. none-found c.in_ok-found.found _ _ c.in-None.is (c.in_ok-found.ensures q r)) st)
