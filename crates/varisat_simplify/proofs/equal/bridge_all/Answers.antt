use Rattle.varisat_rules.proofs.StateLemmas.{becomes_then}
use Rattle.varisat_simplify.proofs.equal.bridge_all.Goals as goal

pub loop-index-preserved : goal.loop-index-preserved
loop-index-preserved g c =
    becomes_then c.args.db.now c.loop-index.db c.bridge_component.new.db c.loop-index.invariant (c.in_ok-bridge_component.ensures {u = tt})
