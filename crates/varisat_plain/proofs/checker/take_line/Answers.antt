use Rattle.varisat_plain.specs.promises.Checking.{clause_lists}
use Rattle.varisat_plain.proofs.Checking.{absent_line, deleted_line}
use Rattle.varisat_plain.proofs.checker.take_line.Goals as goal

pub returns-then-not-take_out : goal.returns-then-not-take_out
returns-then-not-take_out c =
    absent_line (clause_lists c.args.present.now.items) (clause_lists c.take_out.new.present.items) c.args.line.now c.in-Deletes.clause
    c.deref-in-Deletes.result.now c.in-Deletes.is c.deref-in-Deletes.ensures.value (c.take_out.ensures.absent c.if-not-take_out.true)

pub returns-else-not-take_out : goal.returns-else-not-take_out
returns-else-not-take_out c =
    deleted_line (clause_lists c.args.present.now.items) (clause_lists c.take_out.new.present.items) c.args.line.now c.in-Deletes.clause
    c.deref-in-Deletes.result.now c.in-Deletes.is c.deref-in-Deletes.ensures.value (c.take_out.ensures.taken c.if-not-take_out.false)
