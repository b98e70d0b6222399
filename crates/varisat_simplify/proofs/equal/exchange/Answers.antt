use Rattle.varisat_rules.proofs.StateLemmas.{becomes_then}
use Rattle.varisat_simplify.proofs.equal.exchange.Goals as goal

pub returns : goal.returns
returns g c =
    becomes_then c.args.db.now c.derive.new.db c.retract.new.db ((c.in_ok-derive.ensures {u = tt}).later) ((c.in_ok-retract.ensures {u = tt}).later)
