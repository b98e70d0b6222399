use Rattle.varisat_plain.specs.promises.Checking.{clause_lists}
use Rattle.varisat_plain.proofs.Checking.{checked_start, on_refutation, on_derivation, on_taken, on_unproved, on_absent, conflict_there, calm_there}
use Rattle.varisat_plain.proofs.checker.check_lines.Goals as goal

pub loop-i-init : goal.loop-i-init
loop-i-init c = checked_start (clause_lists c.args.clauses.now) (clause_lists c.in_ok-present.present.items) c.in_ok-present.ensures

pub returns-then-branch : goal.returns-then-branch
returns-then-branch c =
    on_refutation (clause_lists c.args.clauses.now) c.args.lines.now c.loop-i.i (clause_lists c.loop-i.present.items) c.loop-i.invariant
    (conflict_there c.deref.result.now c.loop-i.present.items c.deref.ensures.value c.in_ok-conflicts.field-0 c.if-branch.true c.in_ok-conflicts.ensures)

pub returns-in-Unproved : goal.returns-in-Unproved
returns-in-Unproved c =
    on_unproved (clause_lists c.args.clauses.now) c.args.lines.now c.loop-i.i
    (clause_lists c.loop-i.present.items) c.loop-i.invariant c.index-lines-i.result c.loop-i-test.true c.index-lines-i.is
    (calm_there c.deref.result.now c.loop-i.present.items c.deref.ensures.value c.in_ok-conflicts.field-0 c.if-branch.false
    c.in_ok-conflicts.ensures) c.in_ok-take_line.field-0 (clause_lists c.take_line.new.present.items) c.in_ok-take_line.ensures c.in-Unproved.is

pub returns-in-Absent : goal.returns-in-Absent
returns-in-Absent c =
    on_absent (clause_lists c.args.clauses.now) c.args.lines.now c.loop-i.i
    (clause_lists c.loop-i.present.items) c.loop-i.invariant c.index-lines-i.result c.loop-i-test.true c.index-lines-i.is
    (calm_there c.deref.result.now c.loop-i.present.items c.deref.ensures.value c.in_ok-conflicts.field-0 c.if-branch.false
    c.in_ok-conflicts.ensures) c.in_ok-take_line.field-0 (clause_lists c.take_line.new.present.items) c.in_ok-take_line.ensures c.in-Absent.is

pub loop-i-preserved : goal.loop-i-preserved
loop-i-preserved c =
    on_taken (clause_lists c.args.clauses.now) c.args.lines.now c.loop-i.i
    (clause_lists c.loop-i.present.items) c.loop-i.invariant c.index-lines-i.result c.loop-i-test.true c.index-lines-i.is
    (calm_there c.deref.result.now c.loop-i.present.items c.deref.ensures.value c.in_ok-conflicts.field-0 c.if-branch.false
    c.in_ok-conflicts.ensures) c.in_ok-take_line.field-0 (clause_lists c.take_line.new.present.items) c.in_ok-take_line.ensures c.in-Taken.is

pub returns-then-refuted : goal.returns-then-refuted
returns-then-refuted c =
    on_refutation (clause_lists c.args.clauses.now) c.args.lines.now c.loop-i.i (clause_lists c.loop-i.present.items) c.loop-i.invariant
    (conflict_there c.deref-2.result.now c.loop-i.present.items c.deref-2.ensures.value c.in_ok-refuted.refuted c.if-refuted.true c.in_ok-refuted.ensures)

pub returns : goal.returns
returns c =
    on_derivation (clause_lists c.args.clauses.now) c.args.lines.now c.loop-i.i
    (clause_lists c.loop-i.present.items) c.loop-i.invariant c.loop-i-test.false
    (calm_there c.deref-2.result.now c.loop-i.present.items c.deref-2.ensures.value c.in_ok-refuted.refuted c.if-refuted.false c.in_ok-refuted.ensures)
