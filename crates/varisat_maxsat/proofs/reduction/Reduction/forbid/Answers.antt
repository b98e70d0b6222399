use Rattle.std.proofs.Common.{arith}
use Rattle.varisat_maxsat.proofs.Taking.{item-∈}
use Rattle.varisat_maxsat.proofs.Below.{past-step}
use Rattle.varisat_maxsat.proofs.reduction.Reduction.forbid.Goals as goal

pub returns : goal.returns
returns g c = rw (← c.self.view_is) (λ p st.
    past-step p _ _ c.index-counter.result.now _ (item-∈ _ c.args.index _ (omega arith) c.index-counter.ensures) (omega arith) c.not.ensures c.in_ok-give.ensures st)
