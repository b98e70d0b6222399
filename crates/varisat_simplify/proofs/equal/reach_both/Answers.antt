use Rattle.varisat_rules.proofs.StateLemmas.{becomes_then}
use Rattle.varisat_simplify.proofs.equal.reach_both.Goals as goal

pub returns : goal.returns
returns g c =
    becomes_then c.args.db.now c.reach.new.db c.reach-2.new.db (c.in_ok-reach.ensures {u = tt}) (c.in_ok-reach-2.ensures {u = tt})
