use Rattle.std.proofs.Common.{sym, ◌∙◌}
use Rattle.varisat_database.proofs.ListLemmas.{item_at}
use Rattle.varisat_rules.proofs.ResolveLemmas.{found_same, found_opposite, others_none, others_more, others_all}
use Rattle.varisat_rules.proofs.resolve.sign_of.Goals as goal

pub loop-other-init : goal.loop-other-init
loop-other-init c = others_none c.args.clause.now c.args.lit

pub loop-other-preserved : goal.loop-other-preserved
loop-other-preserved c =
    others_more c.args.clause.now c.loop-other.other-index c.args.lit c.other-item.result
    (item_at c.args.clause.now c.loop-other.other-index c.other-item.result c.loop-other-test.true c.other-item.is)
    (λ q. c.if-index.false (c.index.ensures.index ∙ q ∙ sym c.index-in-loop-other.ensures.index)) c.loop-other.invariant

pub returns : goal.returns
returns c = others_all c.args.clause.now c.loop-other.other-index c.args.lit c.loop-other-test.false c.loop-other.invariant

pub returns-then-code : goal.returns-then-code
returns-then-code c =
    found_same c.args.clause.now c.loop-other.other-index c.args.lit c.other-item.result c.loop-other-test.true
    (item_at c.args.clause.now c.loop-other.other-index c.other-item.result c.loop-other-test.true c.other-item.is)
    (sym c.code.ensures.code ∙ c.if-code.true ∙ c.code-then-index.ensures.code)

pub returns-then-index : goal.returns-then-index
returns-then-index c =
    found_opposite c.args.clause.now c.loop-other.other-index c.args.lit c.other-item.result c.loop-other-test.true
    (item_at c.args.clause.now c.loop-other.other-index c.other-item.result c.loop-other-test.true c.other-item.is)
    (sym c.index.ensures.index ∙ c.if-index.true ∙ c.index-in-loop-other.ensures.index)
    (λ q. c.if-code.false (c.code.ensures.code ∙ q ∙ sym c.code-then-index.ensures.code))
