use Rattle.varisat_plain.proofs.Scans.{takes_out_there, absent_there}
use Rattle.varisat_plain.proofs.checker.take_out.Goals as goal

pub returns-in-None-clause-absent : goal.returns-in-None-clause-absent
returns-in-None-clause-absent c = λ e. absent_there c.deref.result.now c.args.present.now.items c.args.clause.now c.deref.ensures.value c.in-None.ensures

pub returns-in-Some-clause-taken : goal.returns-in-Some-clause-taken
returns-in-Some-clause-taken c =
    λ e. takes_out_there c.deref.result.now c.args.present.now.items c.remove.new.self.items c.in-Some.i c.args.clause.now c.deref.ensures.value
    c.in-Some.ensures c.remove.ensures.by_index.2
