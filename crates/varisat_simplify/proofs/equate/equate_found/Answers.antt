use Rattle.varisat_rules.proofs.StateLemmas.{becomes_then}
use Rattle.varisat_simplify.proofs.equate.equate_found.Goals as goal

pub returns : goal.returns
returns g c =
    becomes_then c.args.db.now c.bridge_all.new.db c.use_equal.new.db (c.in_ok-bridge_all.ensures {u = tt}) (c.in_ok-count.ensures {u = tt})
