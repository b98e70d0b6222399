use Rattle.varisat_incremental.proofs.flags.set_hinted_in.Goals as goal

pub loop-lit-preserved : goal.loop-lit-preserved
loop-lit-preserved g c = λ v h. (c.in_ok-set_if_hinted.ensures {u = tt}) v (c.loop-lit.invariant v h)
