use Rattle.std.proofs.Common.{◌≤◌, ⊎_elim, length, arith}
use Rattle.varisat_wcnf.proofs.Reading.{digits-next, number-whole, number-large, number-empty, number-wrong}
use Rattle.varisat_wcnf.proofs.wcnf.number_of.Goals as goal

pub loop-byte-preserved : goal.loop-byte-preserved
loop-byte-preserved c =
    digits-next c.args.word.now c.loop-byte.byte-index _ _ c.loop-byte-test.true c.loop-byte.invariant c.after-digits.ensures

pub returns-in-Number : goal.returns-in-Number
returns-in-Number c = number-whole c.args.word.now c.loop-byte.byte-index _ _ (let h = c.loop-byte-test.false in omega arith) c.loop-byte.invariant c.in-Number.is (omega arith)

pub returns-in-Empty : goal.returns-in-Empty
returns-in-Empty c =
    let far : length c.args.word.now ≤ c.loop-byte.byte-index = let h = c.loop-byte-test.false in omega arith in
    ⊎_elim (number-empty _ _ _ far c.loop-byte.invariant)
    (⊎_elim (number-large _ _ _ far c.loop-byte.invariant) (number-wrong _ _ _ far c.loop-byte.invariant)) c.in-Empty.is
