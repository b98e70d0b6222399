use Rattle.std.proofs.Common.{sym, ◌∙◌}
use Rattle.varisat_database.proofs.ListLemmas.{item_at}
use Rattle.varisat_rules.proofs.ResolveLemmas.{related_kept, related_first, related_whole, related_by}
use Rattle.varisat_rules.proofs.resolve.relation_of.Goals as goal
use Rattle.varisat_rules.proofs.resolve.relation_of.Goals.{in-Same, in-Opposite+else-is_some}

pub loop-lit-preserved : goal.loop-lit-preserved
loop-lit-preserved g c =
    let at = item_at c.args.clause.now c.loop-lit.lit-index c.lit-item.result c.loop-lit-test.true c.lit-item.is in
    elim c.match-sign_by.branch [
      | in-Same w ↦ related_kept c.args.clause.now c.args.other.now c.loop-lit.lit-index c.lit-item.result c.loop-lit.flipped c.match-sign_by.flipped
          w.flipped-is at (w.in-Same.ensures {u = tt}) c.loop-lit.invariant
      | in-Opposite+else-is_some w ↦ related_first c.args.clause.now c.args.other.now c.loop-lit.lit-index c.lit-item.result c.loop-lit.flipped
          c.match-sign_by.flipped w.flipped-is (sym w.is_some.ensures ∙ w.if-is_some.false) c.loop-lit-test.true at c.loop-lit.invariant
    ]

pub returns-in-None : goal.returns-in-None
returns-in-None g c =
    related_whole c.args.clause.now c.args.other.now c.loop-lit.lit-index c.loop-lit.flipped c.in-None.is c.loop-lit-test.false c.loop-lit.invariant

pub returns-else-holds : goal.returns-else-holds
returns-else-holds g c =
    related_by c.args.clause.now c.args.other.now c.loop-lit.lit-index c.in-Some.lit c.not.result c.loop-lit.flipped c.holds.result c.in-Some.is
    c.loop-lit-test.false c.not.ensures c.if-holds.false c.holds.ensures c.loop-lit.invariant
