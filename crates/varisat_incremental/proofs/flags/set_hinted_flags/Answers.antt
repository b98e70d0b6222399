use Rattle.varisat_incremental.proofs.flags.set_hinted_flags.Goals as goal

pub loop-clause-preserved : goal.loop-clause-preserved
loop-clause-preserved g c = λ v h. (c.in_ok-set_hinted_in.ensures {u = tt}) v (c.loop-clause.invariant v h)
