use Rattle.std.proofs.lemmas.Result.{err_from_is_err_and}
use Rattle.std.proofs.lemmas.Grind.{common_steps}
use Rattle.varisat_proof.specs.promises.Marked.{state_of}
use Rattle.std.proofs.Common.{sym, ap, ◌∙◌, arith}
use Rattle.varisat_proof.proofs.CheckedLines.{state_is, stands_along, so_far_more, so_far_line, piece_fault, piece_wrong}
use Rattle.varisat_proof.proofs.checker.check.Checker.read_piece.Goals as goal
use Rattle.varisat_proof.proofs.checker.check.Checker.read_piece.Goals.{in-More, in-Ended+in_ok-next_line-in-Ended}
use Rattle.varisat_proof.specs.promises.DratChecks.{rules_of}

pub returns-in-Fault-clause-reads : goal.returns-in-Fault-clause-reads
returns-in-Fault-clause-reads g c = λ f P text lines r s.
    piece_fault (rules_of c.args.rules) f P text c.args.piece.now c.loop-b.b-index (state_of c.loop-b.self.clauses c.loop-b.builder) c.loop-b.count c.loop-b.reader
    c.start-start.result c.loop-b-test.true (c.loop-b.invariant.so f P text lines r s) (sym c.in-Fault.is ∙ c.in-Ok.ensures.event)
    c.start-start.ensures

pub returns-in_err-next_line-in-Ended-clause-reads : goal.returns-in_err-next_line-in-Ended-clause-reads
returns-in_err-next_line-in-Ended-clause-reads g c = λ f P text lines r s.
    let p = err_from_is_err_and c.from_residual.result c.from_residual.ensures.1 in rw (p.1, p.2)
    (piece_wrong (rules_of c.args.rules) f P text c.args.piece.now c.loop-b.b-index (state_of c.loop-b.self.clauses c.loop-b.builder)
    (state_of c.next_line.new.self.clauses c.next_line.new.builder) c.loop-b.count c.loop-b.reader c.byte.new.self c.kind.result c.clause.result.now
    c.in_err-next_line-in-Ended.field-0.0 c.loop-b-test.true (c.loop-b.invariant.so f P text lines r s) (sym c.in-Ended.is ∙ c.in-Ok.ensures.event)
    c.in-Ok.ensures.ok (record { kind = c.kind.ensures; clause = c.clause.ensures }) c.in_err-next_line-in-Ended.ensures.takes)

pub loop-b-preserved : goal.loop-b-preserved
loop-b-preserved g c = record {
  so = λ f P text lines r s. elim c.match-event.branch [
    | in-More w ↦ so_far_more (rules_of c.args.rules) f P text c.args.piece.now c.loop-b.b-index (state_of c.loop-b.self.clauses c.loop-b.builder)
        (state_of c.match-event.self.clauses c.match-event.builder) c.loop-b.count c.match-event.count c.loop-b.reader c.byte.new.self c.loop-b-test.true
        (c.loop-b.invariant.so f P text lines r s) (sym w.in-More.is ∙ c.in-Ok.ensures.event) c.in-Ok.ensures.ok
        (state_is _ _ _ _ (ap (λ h. h.clauses) w.self-is) w.builder-is) w.count-is
    | in-Ended+in_ok-next_line-in-Ended w ↦ so_far_line (rules_of c.args.rules) f P text c.args.piece.now c.loop-b.b-index (state_of c.loop-b.self.clauses c.loop-b.builder)
        (state_of c.match-event.self.clauses c.match-event.builder) c.loop-b.count c.match-event.count c.loop-b.reader c.byte.new.self w.kind.result
        w.clause.result.now c.loop-b-test.true (c.loop-b.invariant.so f P text lines r s) (sym w.in-Ended.is ∙ c.in-Ok.ensures.event) c.in-Ok.ensures.ok
        (record { kind = w.kind.ensures; clause = w.clause.ensures })
        (λ P' ls t. stands_along (rules_of c.args.rules) P' _ (state_of w.next_line.new.self.clauses w.next_line.new.builder)
        (state_of c.match-event.self.clauses c.match-event.builder) w.next_line.new.count c.match-event.count (w.in_ok-next_line-in-Ended.ensures.takes P' ls t)
        (state_is _ _ _ _ (ap (λ h. h.clauses) w.self-is) w.builder-is) w.count-is)
  ];
  spent = elim c.match-event.branch [
    | in-More w ↦ ap (λ h. h.spent) w.self-is ∙ c.loop-b.invariant.spent
    | in-Ended+in_ok-next_line-in-Ended w ↦ ap (λ h. h.spent) w.self-is ∙ w.next_line.ensures.spent ∙ c.loop-b.invariant.spent
  ];
}

pub returns-clause-reads : goal.returns-clause-reads
returns-clause-reads g c = grind (arith, common_steps)
