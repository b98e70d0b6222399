use Rattle.varisat_rules.proofs.StateLemmas.{becomes_then}
use Rattle.varisat_simplify.proofs.equal.replace_all.Goals as goal

pub returns : goal.returns
returns g c =
    becomes_then c.args.db.now c.rewrite_all.new.db c.eliminate_replaced.new.db (c.in_ok-rewrite_all.ensures {u = tt}) (c.in_ok-eliminate_replaced.ensures {u = tt})
