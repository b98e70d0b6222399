use Rattle.std.proofs.lemmas.Grind.{common_steps}
use Rattle.std.proofs.Common.{arith, ◌+◌, ◌∷◌, []}
use Rattle.varisat_lines.specs.promises.Lines.{letter}
use Rattle.varisat_lines.proofs.LineBytes.{binary_more}
use Rattle.varisat_lines.proofs.writer.push_binary.Goals as goal

pub loop-literal-preserved : goal.loop-literal-preserved
loop-literal-preserved g c =
    binary_more (letter c.args.kind ∷ []) c.loop-literal.buffer.items c.push_number.new.buffer.items c.args.clause.now c.loop-literal.literal-index
    c.literal-item.result (c.code.result + 2) c.loop-literal-test.true c.literal-item.is (omega (arith, c.code.ensures.code)) c.loop-literal.invariant
    c.in_ok-push_number.ensures

pub returns : goal.returns
returns g c = grind (arith, common_steps)
