use Rattle.varisat_rules.proofs.StateLemmas.{becomes_then}
use Rattle.varisat_simplify.proofs.equate.use_equal.Goals as goal

pub returns : goal.returns
returns g c =
    becomes_then c.args.db.now c.replace_all.new.db c.use_new.new.db (c.in_ok-replace_all.ensures {u = tt}) (c.in_ok-use_new.ensures {u = tt})
