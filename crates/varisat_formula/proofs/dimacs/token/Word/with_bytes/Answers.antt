use Rattle.std.proofs.Common.{◌+◌, ap, sym, ◌∙◌}
use Rattle.varisat_formula.proofs.TokenRuns.{byte_more}
use Rattle.varisat_formula.proofs.dimacs.token.Word.with_bytes.Goals as goal

pub loop-b-preserved : goal.loop-b-preserved
loop-b-preserved c = record {
  counted = ap (λ n. n + 1) c.loop-b.invariant.counted;
  word = byte_more c.args.self c.loop-b.word c.after-word.result c.args.bytes.now c.loop-b.b-index c.loop-b-test.true
      (sym c.is_blank_byte.ensures ∙ c.if-is_blank_byte.false) c.after-word.ensures c.loop-b.invariant.word;
}
