use Rattle.varisat_rules.proofs.StateLemmas.{becomes_then}
use Rattle.varisat_simplify.proofs.congruence.remove_cases.Goals as goal

pub loop-place-preserved : goal.loop-place-preserved
loop-place-preserved g c =
    becomes_then c.args.db.now c.loop-place.db c.retract.new.db c.loop-place.invariant ((c.in_ok-retract.ensures {u = tt}).later)
