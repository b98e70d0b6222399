use Rattle.std.proofs.Common.{◌≡◌, true, arith}
use Rattle.std.proofs.lemmas.Bool.{not-false}
use Rattle.varisat_maxsat.proofs.Taking.{item-∈}
use Rattle.varisat_maxsat.proofs.Below.{adds-step}
use Rattle.varisat_maxsat.proofs.reduction.Reduction.add_up.Goals as goal

pub returns : goal.returns
returns g c =
    let e : c.adds_up.result ≡ true = first_of (assumption c.if-not-adds_up.false, search (not-false, c.if-not-adds_up.false)) in
    let f = c.adds_up.ensures.0 e in
    rw (← c.self.view_is) (λ p st.
    adds-step p _ _ c.index.result.now c.index-2.result.now c.index-3.result.now _ _ (item-∈ _ c.args.left _ (omega arith) c.index.ensures)
    (item-∈ _ c.args.right _ (omega arith) c.index-2.ensures) (item-∈ _ c.args.effect _ (omega arith) c.index-3.ensures)
    f.0 f.1 f.2 f.3 c.not.ensures c.not-2.ensures c.in_ok-give.ensures st)
