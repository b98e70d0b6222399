use Rattle.varisat_rules.proofs.StateLemmas.{becomes_then}
use Rattle.varisat_simplify.proofs.congruence.merge.Goals as goal

pub returns-in_default-3 : goal.returns-in_default-3
returns-in_default-3 g c =
    becomes_then c.args.db.now c.connect.new.db c.connect-2.new.db (c.in_ok-there.ensures {u = tt}) (c.in_ok-back.ensures {u = tt})

pub returns : goal.returns
returns g c =
    becomes_then c.args.db.now c.connect.new.db c.connect-2.new.db (c.in_ok-there.ensures {u = tt}) (c.in_ok-back.ensures {u = tt})
