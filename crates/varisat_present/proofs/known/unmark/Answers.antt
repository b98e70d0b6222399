use Rattle.std.proofs.Common.{◌∙◌, arith}
use Rattle.std.proofs.lemmas.List.{get_or_read}
use Rattle.varisat_present.proofs.KnownMarks.{unmarked_none, unmarked_more, unmarked_on, unmarked_all}
use Rattle.varisat_present.proofs.known.unmark.Goals as goal

pub loop-l-init : goal.loop-l-init
loop-l-init g c = unmarked_none c.args.marks.now.items

pub loop-l-preserved-then-code-len : goal.loop-l-preserved-then-code-len
loop-l-preserved-then-code-len g c =
    unmarked_on c.args.literals.now c.loop-l.l-index c.code-code.result c.args.marks.now.items c.loop-l.marks.items c.loop-l-test.true
    (c.code-code.ensures.code ∙ get_or_read c.args.literals.now c.loop-l.l-index c.l-item.result c.loop-l-test.true c.l-item.is 0)
    (omega (arith, c.if-code-len.true, c.len.ensures)) c.loop-l.invariant

pub loop-l-preserved : goal.loop-l-preserved
loop-l-preserved g c =
    unmarked_more c.args.literals.now c.loop-l.l-index c.code-code.result c.args.marks.now.items c.loop-l.marks.items c.loop-l-test.true
    (c.code-code.ensures.code ∙ get_or_read c.args.literals.now c.loop-l.l-index c.l-item.result c.loop-l-test.true c.l-item.is 0)
    (omega (arith, c.if-code-len.false, c.len.ensures)) c.loop-l.invariant

pub returns : goal.returns
returns g c =
    unmarked_all c.args.literals.now c.loop-l.l-index c.args.marks.now.items c.loop-l.marks.items (omega (arith, c.loop-l-test.false)) c.loop-l.invariant
