use Rattle.std.proofs.lemmas.Grind.{common_steps}
use Rattle.std.proofs.Common.{arith}
use Rattle.varisat_lines.specs.promises.Written.{mark_text}
use Rattle.varisat_lines.proofs.LineBytes.{text_more}
use Rattle.varisat_lines.proofs.writer.push_text.Goals as goal

pub loop-literal-preserved : goal.loop-literal-preserved
loop-literal-preserved g c =
    text_more (mark_text c.args.kind) c.loop-literal.buffer.items c.push_literal.new.buffer.items c.args.clause.now c.loop-literal.literal-index
    c.literal-item.result c.loop-literal-test.true c.literal-item.is c.loop-literal.invariant c.in_ok-push_literal.ensures

pub returns : goal.returns
returns g c = grind (arith, common_steps)
