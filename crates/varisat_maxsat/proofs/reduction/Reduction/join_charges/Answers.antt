use Rattle.std.proofs.Common.{subst}
use Rattle.varisat_maxsat.specs.inside.Charges.{Exchanges}
use Rattle.varisat_maxsat.proofs.Below.{exchange-step}
use Rattle.varisat_maxsat.proofs.reduction.Reduction.join_charges.Goals as goal

pub returns-clause-joined : goal.returns-clause-joined
returns-clause-joined g c = rw (← c.self.view_is) (λ p st.
    exchange-step p _ _ _ _ (subst (λ xs. Exchanges xs c.in_ok-charges.field-0.due c.in_ok-charges.field-0.charges.items) c.deref.ensures.value
    c.in_ok-charges.ensures) c.in_ok-self-inside.ensures st)
