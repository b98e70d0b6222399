use Rattle.varisat_rules.proofs.StateLemmas.{becomes_then}
use Rattle.varisat_simplify.proofs.equate.probe_one.Goals as goal

pub returns : goal.returns
returns g c =
    becomes_then c.args.db.now c.try_literal.new.db c.use_new.new.db (c.in_ok-try_literal.ensures {u = tt}) (c.in_ok-use_new.ensures {u = tt})
