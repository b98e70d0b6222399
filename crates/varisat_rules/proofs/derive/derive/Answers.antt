use Rattle.varisat_rules.proofs.DeriveLemmas.{derived}
use Rattle.varisat_rules.proofs.derive.derive.Goals as goal

pub returns-clause-later : goal.returns-clause-later
returns-clause-later g c =
    derived c.args.db.now c.push.new.self c.len-none.result c.args.clause.now (c.in_ok-push.ensures {u = tt}).ok
    (c.in_ok-follows.ensures {u = tt} c.if-not-branch.false) (c.are_among.ensures c.if-not-are_among.false)
