use Rattle.std.proofs.Common.{ap, ◌∙◌, subst}
use Rattle.varisat_rules.specs.inside.Resolving.{IsLiveUnit}
use Rattle.varisat_database.proofs.ListLemmas.{item_at}
use Rattle.varisat_rules.proofs.UnitLemmas.{false_kept, false_dropped}
use Rattle.varisat_rules.proofs.units.without_false.Goals as goal
use Rattle.varisat_rules.proofs.units.without_false.Goals.{then-not-is_fixed+in_ok-push, else-not-is_fixed}

pub loop-lit-preserved : goal.loop-lit-preserved
loop-lit-preserved g c =
    let items = c.clause-lit-items.result.now in
    let i = c.loop-lit.lit-index in
    let at = item_at items i c.lit-item.result c.loop-lit-test.true c.lit-item.is in
    elim c.if-not-is_fixed.branch [
      | then-not-is_fixed+in_ok-push w ↦ false_kept c.args.db.now items c.loop-lit.out.items c.if-not-is_fixed.out.items i c.lit-item.result
          c.loop-lit-test.true at (ap (λ v. v.items) w.out-is ∙ w.in_ok-push.ensures.items) c.loop-lit.invariant
      | else-not-is_fixed w ↦ false_dropped c.args.db.now items c.loop-lit.out.items c.if-not-is_fixed.out.items i c.lit-item.result at
          (subst (λ m. IsLiveUnit c.args.db.now m) c.not.ensures (c.is_fixed.ensures w.if-not-is_fixed.false)) (ap (λ v. v.items) w.out-is) c.loop-lit.invariant
    ]
