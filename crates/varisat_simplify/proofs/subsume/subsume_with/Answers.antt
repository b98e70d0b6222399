use Rattle.varisat_rules.proofs.StateLemmas.{becomes_then}
use Rattle.varisat_simplify.proofs.subsume.subsume_with.Goals as goal

pub returns : goal.returns
returns g c =
    becomes_then c.args.db.now c.use_along.new.db c.use_along-2.new.db (c.in_ok-use_along.ensures {u = tt}) (c.in_ok-use_along-2.ensures {u = tt})
