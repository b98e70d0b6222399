use Rattle.varisat_rules.proofs.StateLemmas.{becomes_then}
use Rattle.varisat_simplify.proofs.equal.eliminate_replaced.Goals as goal

pub loop-lit-preserved : goal.loop-lit-preserved
loop-lit-preserved g c =
    becomes_then c.args.db.now c.loop-lit.db c.eliminate.new.db c.loop-lit.invariant (c.in_ok-eliminate.ensures {u = tt})
