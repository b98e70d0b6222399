use Rattle.varisat_rules.proofs.StateLemmas.{becomes_then}
use Rattle.varisat_rules.proofs.FlowLemmas.{becomes_next}
use Rattle.varisat_simplify.proofs.simplify.eliminate_all.Goals as goal
use Rattle.varisat_simplify.proofs.simplify.eliminate_all.Goals.{then-branch+in_ok-place, else-branch}

pub loop-key-preserved : goal.loop-key-preserved
loop-key-preserved g c =
    let b = becomes_then c.args.db.now c.loop-key.db c.eliminate.new.db c.loop-key.invariant (c.in_ok-eliminate.ensures {u = tt}) in
    elim c.if-branch.branch [
      | then-branch+in_ok-place w ↦ becomes_next c.args.db.now w.subsume_from.new.db c.if-branch.db
          (becomes_then c.args.db.now c.eliminate.new.db w.subsume_from.new.db b (w.in_ok-place.ensures {u = tt})) w.db-is
      | else-branch w ↦ becomes_next c.args.db.now c.eliminate.new.db c.if-branch.db b w.db-is
    ]
