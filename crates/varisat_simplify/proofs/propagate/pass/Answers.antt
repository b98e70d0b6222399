use Rattle.varisat_rules.proofs.StateLemmas.{becomes_then}
use Rattle.varisat_simplify.proofs.propagate.pass.Goals as goal

pub loop-place-preserved : goal.loop-place-preserved
loop-place-preserved g c = becomes_then c.args.db.now c.loop-place.db c.use_or_note.new.db c.loop-place.invariant (c.in_ok-is_new.ensures {u = tt})
