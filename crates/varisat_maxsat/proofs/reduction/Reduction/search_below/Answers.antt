use Rattle.std.proofs.Common.{[], subst}
use Rattle.varisat_maxsat.specs.inside.Reductions.{FindsWithin}
use Rattle.varisat_maxsat.proofs.Below.{bound-step, search-below-step}
use Rattle.varisat_maxsat.proofs.reduction.Reduction.search_below.Goals as goal

pub returns-then-self : goal.returns-then-self
returns-then-self g c = rw (← c.self.view_is) (λ p st. bound-step p _ c.if-self.true st)

pub returns : goal.returns
returns g c = rw (← c.self.view_is) (λ p st.
    search-below-step p _ _ c.in-Some.found (λ q r. subst (λ o. FindsWithin o 0 [] q.clauses c.search.new.client) c.in-Some.is (c.in_ok-found.ensures q r)) st)
