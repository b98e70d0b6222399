use Rattle.varisat_rules.proofs.StateLemmas.{becomes_then}
use Rattle.varisat_simplify.proofs.equal.rewrite_both.Goals as goal

pub returns : goal.returns
returns g c =
    becomes_then c.args.db.now c.rewrite_with.new.db c.rewrite_with-2.new.db (c.in_ok-rewrite_with.ensures {u = tt}) (c.in_ok-rewrite_with-2.ensures {u = tt})
