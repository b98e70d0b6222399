use Rattle.varisat_plain.proofs.Scans.{copied_more}
use Rattle.varisat_plain.proofs.checker.copies.Goals as goal

pub loop-clause-preserved : goal.loop-clause-preserved
loop-clause-preserved c =
    copied_more c.args.clauses.now c.loop-clause.made.items c.push.new.self.items c.loop-clause.clause-index c.clause-item.result
    c.in_ok-from_slice.field-0 c.deref.result.now c.loop-clause-test.true c.clause-item.is c.deref.ensures.value
    c.in_ok-from_slice.ensures.items c.in_ok-push.ensures.items c.loop-clause.invariant
