use Rattle.std.proofs.lemmas.Grind.{common_steps}
use Rattle.std.proofs.Common.{sym, ap, ◌∙◌, arith}
use Rattle.varisat_theory.specs.promises.Literals.{variable_of}
use Rattle.std.proofs.lemmas.List.{get_or_read}
use Rattle.varisat_present.proofs.Mentions.{mentioned, not_mentioned}
use Rattle.varisat_present.proofs.clause.mentions.Goals as goal

pub returns-then-index : goal.returns-then-index
returns-then-index c =
    sym (mentioned c.args.var c.args.clause.now c.loop-l.l-index c.loop-l-test.true
    (ap variable_of (sym (get_or_read c.args.clause.now c.loop-l.l-index c.l-item.result c.loop-l-test.true c.l-item.is 0))
    ∙ sym c.index.ensures.index ∙ c.if-index.true ∙ c.index-in-loop-l.ensures.index))

pub loop-l-preserved : goal.loop-l-preserved
loop-l-preserved c =
    not_mentioned c.args.var c.args.clause.now c.loop-l.l-index c.loop-l-test.true
    (λ e. c.if-index.false (c.index.ensures.index ∙ ap variable_of
    (get_or_read c.args.clause.now c.loop-l.l-index c.l-item.result c.loop-l-test.true c.l-item.is 0) ∙ e
    ∙ sym c.index-in-loop-l.ensures.index)) c.loop-l.invariant

pub returns : goal.returns
returns c = grind (arith, common_steps)
