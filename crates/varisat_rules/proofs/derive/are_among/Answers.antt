use Rattle.varisat_database.proofs.ListLemmas.{item_at}
use Rattle.varisat_rules.proofs.DeriveLemmas.{among_more}
use Rattle.varisat_rules.proofs.derive.are_among.Goals as goal

pub loop-lit-preserved : goal.loop-lit-preserved
loop-lit-preserved g c =
    among_more c.args.db.now c.args.clause.now c.loop-lit.lit-index c.lit-item.result
    (item_at c.args.clause.now c.loop-lit.lit-index c.lit-item.result c.loop-lit-test.true c.lit-item.is)
    (c.is_among.ensures c.if-not-is_among.false) c.loop-lit.invariant
