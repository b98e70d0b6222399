use Rattle.varisat_wcnf.proofs.Printing.{digits-put}
use Rattle.varisat_wcnf.proofs.program.put_values.Goals as goal

pub loop-value-preserved : goal.loop-value-preserved
loop-value-preserved g c =
    digits-put c.args.text.now.items c.loop-value.text.items _ c.args.values.now c.loop-value.value-index _ _ c.loop-value-test.true c.loop-value.invariant
    c.in_ok-push.ensures.items c.digit_of.ensures
