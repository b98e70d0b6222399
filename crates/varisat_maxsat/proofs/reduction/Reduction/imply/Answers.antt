use Rattle.std.proofs.Common.{◌≡◌, true, arith}
use Rattle.std.proofs.lemmas.Bool.{not-false}
use Rattle.varisat_maxsat.proofs.Taking.{item-∈}
use Rattle.varisat_maxsat.proofs.Below.{within-step}
use Rattle.varisat_maxsat.proofs.reduction.Reduction.imply.Goals as goal

pub returns : goal.returns
returns g c =
    let e : c.is_within.result ≡ true = first_of (assumption c.if-not-is_within.false, search (not-false, c.if-not-is_within.false)) in
    let f = c.is_within.ensures.0 e in
    rw (← c.self.view_is) (λ p st.
    within-step p _ _ c.index.result.now c.index-2.result.now _ (item-∈ _ c.args.cause _ (omega arith) c.index.ensures)
    (item-∈ _ c.args.effect _ (omega arith) c.index-2.ensures) f.0 f.1 f.2 c.not.ensures c.in_ok-give.ensures st)
