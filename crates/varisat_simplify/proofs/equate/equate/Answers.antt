use Rattle.varisat_rules.proofs.StateLemmas.{becomes_then}
use Rattle.varisat_simplify.proofs.equate.equate.Goals as goal

pub loop-preserved : goal.loop-preserved
loop-preserved g c =
    becomes_then c.args.db.now c.loop.db c.equate_once.new.db c.loop.invariant (c.in_ok-is_done.ensures {u = tt})
