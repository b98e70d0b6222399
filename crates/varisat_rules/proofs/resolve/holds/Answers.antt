use Rattle.std.proofs.Common.{sym, ◌∙◌}
use Rattle.varisat_database.proofs.ListLemmas.{item_at}
use Rattle.varisat_rules.proofs.ResolveLemmas.{found_same, none_taken, unseen_more, unseen_all, answers_true, answers_false}
use Rattle.varisat_rules.proofs.resolve.holds.Goals as goal

pub loop-other-init : goal.loop-other-init
loop-other-init c = none_taken c.args.lit c.args.clause.now

pub returns-then-code : goal.returns-then-code
returns-then-code c = answers_true _ (
    found_same c.args.clause.now c.loop-other.other-index c.args.lit c.other-item.result c.loop-other-test.true
    (item_at c.args.clause.now c.loop-other.other-index c.other-item.result c.loop-other-test.true c.other-item.is)
    (sym c.code.ensures.code ∙ c.if-code.true ∙ c.code-in-loop-other.ensures.code))

pub loop-other-preserved : goal.loop-other-preserved
loop-other-preserved c =
    unseen_more c.args.clause.now c.loop-other.other-index c.args.lit c.other-item.result
    (item_at c.args.clause.now c.loop-other.other-index c.other-item.result c.loop-other-test.true c.other-item.is)
    (λ q. c.if-code.false (c.code.ensures.code ∙ q ∙ sym c.code-in-loop-other.ensures.code)) c.loop-other.invariant

pub returns : goal.returns
returns c = answers_false _ (unseen_all c.args.clause.now c.loop-other.other-index c.args.lit c.loop-other-test.false c.loop-other.invariant)
