use Rattle.std.proofs.Common.{[], subst}
use Rattle.varisat_maxsat.specs.inside.Charges.{Divides}
use Rattle.varisat_maxsat.proofs.Below.{begin-step}
use Rattle.varisat_maxsat.proofs.reduction.Reduction.begin_counting.Goals as goal

pub returns : goal.returns
returns g c = rw (← c.self.view_is) (λ p st.
    begin-step p _ c.in_ok-parts.parts.items c.in_ok-parts.ensures.0 _ _
    (subst (λ xs. Divides xs [] c.in_ok-parts.parts.items c.in_ok-parts.ensures.0) c.deref.ensures.value c.in_ok-parts.ensures.1) c.clear.ensures.items st)
