use Rattle.std.proofs.Common.{sym, ap, ◌∙◌}
use Rattle.std.proofs.lemmas.List.{take_all, get_or_read}
use Rattle.varisat_theory.specs.promises.Literals.{opposite}
use Rattle.varisat_rat.proofs.RatPlaces.{others_same, others_more, others_all}
use Rattle.varisat_rat.proofs.resolvents.add_others.Goals as goal

pub loop-l-preserved-then-code : goal.loop-l-preserved-then-code
loop-l-preserved-then-code g c =
    let e = get_or_read c.args.clause.now c.loop-l.l-index c.l-item.result c.loop-l-test.true c.l-item.is 0 in
    others_same c.args.base.now.items c.loop-l.base.items c.args.clause.now c.loop-l.l-index c.args.literal c.loop-l-test.true
    (sym e ∙ sym c.code.ensures.code ∙ c.if-code.true ∙ c.code-in-loop-l.ensures.code) c.loop-l.invariant

pub loop-l-preserved : goal.loop-l-preserved
loop-l-preserved g c =
    let e = get_or_read c.args.clause.now c.loop-l.l-index c.l-item.result c.loop-l-test.true c.l-item.is 0 in
    others_more c.args.base.now.items c.loop-l.base.items c.push.new.self.items c.args.clause.now c.loop-l.l-index c.args.literal c.not.result
    c.loop-l-test.true (λ q. c.if-code.false (c.code.ensures.code ∙ e ∙ q ∙ sym c.code-in-loop-l.ensures.code)) c.loop-l.invariant
    c.in_ok-push.ensures.items (c.not.ensures ∙ ap opposite e)

pub returns : goal.returns
returns g c =
    others_all c.args.base.now.items c.loop-l.base.items c.args.clause.now c.loop-l.l-index c.args.literal
    (take_all c.loop-l.l-index c.args.clause.now c.loop-l-test.false) c.loop-l.invariant
