use Rattle.varisat_rules.proofs.DeriveLemmas.{retracted}
use Rattle.varisat_rules.proofs.derive.retract.Goals as goal

pub returns-clause-later : goal.returns-clause-later
returns-clause-later g c =
    retracted c.args.db.now c.remove.new.self c.args.place c.clause.result.now c.clause.ensures (c.in_ok-remove.ensures {u = tt})
    (c.in_ok-follows.ensures {u = tt} c.if-not-branch.false)
