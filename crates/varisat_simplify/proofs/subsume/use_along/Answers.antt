use Rattle.varisat_rules.proofs.StateLemmas.{becomes_then}
use Rattle.varisat_simplify.proofs.subsume.use_along.Goals as goal

pub loop-preserved : goal.loop-preserved
loop-preserved g c =
    becomes_then c.args.db.now c.loop.db c.use_on.new.db c.loop.invariant (c.in_ok-use_on.ensures {u = tt})
