use Rattle.varisat_rules.proofs.StateLemmas.{becomes_then}
use Rattle.varisat_simplify.proofs.equate.equate_once.Goals as goal

pub returns : goal.returns
returns g c =
    becomes_then c.args.db.now c.equate_gates.new.db c.probe_all.new.db (becomes_then c.args.db.now c.equate_components.new.db c.equate_gates.new.db (c.in_ok-one.ensures {u = tt}) (c.in_ok-two.ensures {u = tt})) (c.in_ok-three.ensures {u = tt})
