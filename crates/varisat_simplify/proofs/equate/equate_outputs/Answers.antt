use Rattle.varisat_rules.proofs.StateLemmas.{becomes_then}
use Rattle.varisat_simplify.proofs.equate.equate_outputs.Goals as goal

pub returns : goal.returns
returns g c =
    becomes_then c.args.db.now c.merge_all.new.db c.use_equal.new.db (c.in_ok-merge_all.ensures {u = tt}) (c.in_ok-count.ensures {u = tt})
