use Rattle.std.proofs.Common.{refl, length, ◌∙◌}
use Rattle.varisat_simplify.proofs.UnloadLemmas.{in_range}
use Rattle.varisat_simplify.proofs.CountLemmas.{live_added, live_passed}
use Rattle.varisat_simplify.proofs.simplify.live_literals.Goals as goal
use Rattle.varisat_simplify.proofs.simplify.live_literals.Goals.{then-is_live, else-is_live}

pub loop-place-preserved : goal.loop-place-preserved
loop-place-preserved g c =
    let h = in_range c.loop-place.place c.len-place-end.result _ c.loop-place-test.true c.len-place-end.ensures.count in
    elim c.if-is_live.branch [
      | then-is_live w ↦ live_added c.args.db.now c.loop-place.place c.loop-place.sum c.if-is_live.sum (length w.clause.result.now) c.is_live.result
          w.clause.result.now h c.is_live.ensures w.if-is_live.true w.clause.ensures refl (w.sum-is ∙ w.saturating_add-sum.ensures) c.loop-place.invariant
      | else-is_live w ↦ live_passed c.args.db.now c.loop-place.place c.loop-place.sum c.if-is_live.sum c.is_live.result h c.is_live.ensures
          w.if-is_live.false w.sum-is c.loop-place.invariant
    ]
