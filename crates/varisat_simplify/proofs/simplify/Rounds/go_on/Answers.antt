use Rattle.varisat_rules.proofs.StateLemmas.{becomes_then}
use Rattle.varisat_simplify.proofs.simplify.Rounds.go_on.Goals as goal

pub returns-then-self : goal.returns-then-self
returns-then-self g c =
    becomes_then c.args.db.now c.subsume_from.new.db c.try_some.new.db (c.in_ok-self.ensures {u = tt}) (c.in_ok-try_some.ensures {u = tt})

pub returns : goal.returns
returns g c =
    becomes_then c.args.db.now c.subsume_from.new.db c.try_some.new.db (c.in_ok-self.ensures {u = tt}) (c.in_ok-try_some.ensures {u = tt})
