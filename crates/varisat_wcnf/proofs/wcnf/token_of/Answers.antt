use Rattle.std.proofs.Common.{arith}
use Rattle.varisat_wcnf.proofs.Reading.{word-next, word-whole}
use Rattle.varisat_wcnf.proofs.wcnf.token_of.Goals as goal

pub loop-byte-preserved : goal.loop-byte-preserved
loop-byte-preserved c =
    word-next c.args.word.now c.loop-byte.byte-index _ _ c.loop-byte-test.true c.loop-byte.invariant c.after-read.ensures

pub returns : goal.returns
returns c = word-whole c.args.word.now c.loop-byte.byte-index _ _ (let h = c.loop-byte-test.false in omega arith) c.loop-byte.invariant c.meaning.ensures
