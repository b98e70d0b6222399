use Rattle.std.proofs.Common.{◌∙◌}
use Rattle.varisat_simplify.proofs.UnloadLemmas.{listing_pass, listing_add, in_range}
use Rattle.varisat_simplify.proofs.simplify.unload.Goals as goal
use Rattle.varisat_simplify.proofs.simplify.unload.Goals.{then-is_live+in_ok-add_clause, else-is_live}

pub loop-place-preserved : goal.loop-place-preserved
loop-place-preserved g c =
    elim c.if-is_live.branch [
      | then-is_live+in_ok-add_clause w ↦ listing_add c.args.db.now c.loop-place.formula c.if-is_live.formula c.loop-place.place c.is_live.result
          w.clause.result.now (in_range c.loop-place.place c.len-place-end.result _ c.loop-place-test.true c.len-place-end.ensures.count) (w.formula-is ∙ (w.in_ok-add_clause.ensures {u = tt})) w.clause.ensures c.is_live.ensures w.if-is_live.true c.loop-place.invariant
      | else-is_live w ↦ listing_pass c.args.db.now c.loop-place.formula c.if-is_live.formula c.loop-place.place c.is_live.result
          (in_range c.loop-place.place c.len-place-end.result _ c.loop-place-test.true c.len-place-end.ensures.count) w.formula-is
          c.is_live.ensures w.if-is_live.false c.loop-place.invariant
    ]
