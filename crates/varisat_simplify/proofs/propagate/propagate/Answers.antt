use Rattle.varisat_rules.proofs.StateLemmas.{becomes_then}
use Rattle.varisat_simplify.proofs.propagate.propagate.Goals as goal

pub returns-then-not-branch : goal.returns-then-not-branch
returns-then-not-branch g c = becomes_then c.args.db.now c.loop.db c.pass.new.db c.loop.invariant (c.in_ok-pass.ensures {u = tt})

pub loop-preserved : goal.loop-preserved
loop-preserved g c = becomes_then c.args.db.now c.loop.db c.pass.new.db c.loop.invariant (c.in_ok-pass.ensures {u = tt})
