use Rattle.varisat_rules.proofs.StateLemmas.{becomes_then}
use Rattle.varisat_simplify.proofs.equate.equate_gates.Goals as goal

pub loop-preserved : goal.loop-preserved
loop-preserved g c =
    becomes_then c.args.db.now c.loop.db c.equate_outputs.new.db c.loop.invariant (c.in_ok-more.ensures {u = tt})
