use Rattle.std.proofs.Common.{ap, ◌∙◌, arith}
use Rattle.varisat_maxsat.proofs.Taking.{takes-next-part, takes-next-whole, item-∈}
use Rattle.varisat_maxsat.proofs.charge.take_weight.Goals as goal
use Rattle.varisat_maxsat.proofs.charge.take_weight.Goals.{then-charge-weight+in_ok-push, else-charge-weight}

pub loop-charge-preserved : goal.loop-charge-preserved
loop-charge-preserved g c =
    elim c.if-charge-weight.branch [
      | then-charge-weight+in_ok-push w ↦ takes-next-part _ _ c.charge-item.result c.loop-charge-test.true c.charge-item.is w.if-charge-weight.true
          (ap (λ v. v.items) w.kept-is ∙ w.in_ok-push.ensures.items) c.in_ok-push_back.ensures.items c.loop-charge.invariant
      | else-charge-weight w ↦
          let h = c.requires c.charge-item.result (item-∈ _ _ _ c.loop-charge-test.true c.charge-item.is) in
          takes-next-whole _ _ c.charge-item.result c.loop-charge-test.true c.charge-item.is (let i = w.if-charge-weight.false in omega arith)
          (ap (λ v. v.items) w.kept-is) c.in_ok-push_back.ensures.items c.loop-charge.invariant
    ]
