use Rattle.varisat_plain.proofs.Scans.{opposites_more}
use Rattle.varisat_plain.proofs.propagation.follows.Goals as goal

pub loop-l-preserved : goal.loop-l-preserved
loop-l-preserved c =
    opposites_more c.args.clause.now c.loop-l.l-index c.loop-l.base.items c.push.new.self.items c.opposite.result c.loop-l-test.true
    c.loop-l.invariant c.in_ok-push.ensures.items c.opposite.ensures
